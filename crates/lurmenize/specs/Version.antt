-- The version of the library, 0.4.0, as one number.
use Rattle.std.specs.Prelude.{ℕ, ◌+◌, ◌*◌}

abbrev pub version : ℕ
version = 0 * 1000000 + 4 * 1000 + 0

-- Where bytes of a line go, for the function that puts them there.
use Rattle.std.specs.Prelude.{cond, ℕ, ◌+◌, leb, Option, None, Some}
use Rattle.console.specs.declared.lines.Partial.{Partial}
use Rattle.console.specs.declared.lines.Partial.TheVariants.{Held, Skipped}

-- the index at which n more bytes are put in a buffer of size bytes, if they fit: of a line that is skipped none do
abbrev pub place_of : Partial → ℕ → ℕ → Option ℕ
place_of (Held k) n size = cond (leb (k + n) size) (Some k) None
place_of Skipped n size = None

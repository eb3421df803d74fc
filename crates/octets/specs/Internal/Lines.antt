-- Where lines end, for functions that walk them by an index.
use Rattle.std.specs.Prelude.{List, ℕ, ◌+◌, min, drop, length}
use Rattle.octets.specs.Bytes.{index_of, lf}

-- how many bytes the first line has
unfoldable pub first_length : List ℕ → ℕ
first_length bytes = min (index_of lf bytes + 1) (length bytes)

-- where the line ends that begins at an index
abbrev pub line_end : List ℕ → ℕ → ℕ
line_end bytes at = at + first_length (drop at bytes)

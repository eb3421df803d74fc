-- Lines out of chunks.
use Rattle.std.specs.Prelude.{Bool, true, false, cond, List, ◌≡◌, ℕ, ◌+◌, ◌≤◌, max, min, leb, ltb, drop, length, take}
use Rattle.octets.specs.Bytes.{index_of, lf, put_at}
use Rattle.octets.specs.Lines.{first_ends, first_line}
use Rattle.console.specs.declared.lines.Line.{Line}
use Rattle.console.specs.declared.lines.Line.TheVariants.{More, Whole, Bad}
use Rattle.console.specs.declared.lines.Partial.{Partial}
use Rattle.console.specs.declared.lines.Partial.TheVariants.{Held, Skipped}
use Rattle.console.specs.declared.lines.Piece.{Piece}

abbrev pub piece : ℕ → Partial → Line → Piece
piece next p l = record { next = next; partial = p; line = l }

-- how many bytes are held
abbrev pub held_length : Partial → ℕ
held_length (Held k) = k
held_length Skipped = 0

-- whether n more bytes of the line and an LF fit in a buffer of size bytes: of a line that is skipped none do
unfoldable pub fits_of : Partial → ℕ → ℕ → Bool
fits_of (Held k) n size = leb (k + (n + 1)) size
fits_of Skipped n size = false

-- by whether the line ends in the chunk, and whether it fits: next is the chunk's index and n the line's length, both before the LF
abbrev pub piece_by : Bool → Bool → ℕ → ℕ → Piece
piece_by true true next n = piece (next + 1) (Held 0) (Whole (n + 1))
piece_by true false next n = piece (next + 1) (Held 0) Bad
piece_by false true next n = piece next (Held n) More
piece_by false false next n = piece next Skipped More

-- what the bytes `rest`, which stand in the chunk from index `from` on, make of the line that p holds
unfoldable pub piece_of : List ℕ → ℕ → ℕ → Partial → Piece
piece_of rest from size p =
    piece_by (first_ends rest) (fits_of p (index_of lf rest) size) (from + index_of lf rest) (held_length p + index_of lf rest)

-- the buffer then: where it fits, the first line of `rest`, or what there is of it, is put behind what is held
unfoldable pub piece_buffer : List ℕ → List ℕ → Partial → List ℕ
piece_buffer rest buffer p = cond (fits_of p (index_of lf rest) (length buffer)) (put_at buffer (held_length p) (first_line rest)) buffer

-- at the end of the input, a line with no LF is bad
abbrev pub line_at_end : Partial → Line
line_at_end (Held k) = cond (ltb 0 k) Bad More
line_at_end Skipped = Bad

-- r and the buffer `after` are what `take` makes. The rest follows, and is stated for callers: next is past `from` and no further than the end
-- of the chunk, unless `from` is not in it, and a whole line is within the buffer
pub record Taken (chunk : List ℕ) (from : ℕ) (buffer : List ℕ) (p : Partial) (r : Piece) (after : List ℕ) : Type 0 where
  pub piece_is : r ≡ piece_of (drop from chunk) from (length buffer) p
  pub buffer_is : after ≡ piece_buffer (drop from chunk) buffer p
  pub same_length : length after ≡ length buffer
  pub within : r.next ≤ max from (length chunk)
  pub progress : min (from + 1) (length chunk) ≤ r.next
  pub whole : (n : ℕ) → r.line ≡ Whole n → n ≤ length after
  pub counted : (n : ℕ) → r.line ≡ Whole n → n ≡ length (take n after)

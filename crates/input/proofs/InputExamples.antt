-- A short input, step by step, by computation.
use mathlib.Core.Bool.{true, false}
use mathlib.Core.List.{List, [], ◌∷◌}
use mathlib.Core.Path.{◌≡◌, refl}
use Prim.Native.Nat.{ℕ}
use Rattle.std.specs.Prelude.{None, Some}
use Rattle.octets.specs.Bytes.{index_of, lf}
use Rattle.console.specs.Lines.{fits_of, piece_of}
use Rattle.console.specs.declared.lines.Line.{Line}
use Rattle.console.specs.declared.lines.Line.TheVariants.{More, Whole, Bad}
use Rattle.console.specs.declared.lines.Partial.TheVariants.{Held}
use Rattle.input.specs.Input.{chunk_rest, of_piece, some_left, turn_after_read}
use Rattle.input.specs.declared.Input.{Input}
use Rattle.input.specs.declared.Input.TheVariants.{Open, Ended, Failed}
use Rattle.input.specs.declared.Turn.{Turn}

-- a chunk of 6 bytes, of which a read filled four: `ab`, LF, `c`
abbrev chunk : List ℕ
chunk = 97 ∷ 98 ∷ lf ∷ 99 ∷ 7 ∷ 7 ∷ []

abbrev turn : Input → Line → Turn
turn i l = record { input = i; line = l }

four_bytes : turn_after_read (Held 0) (Some 4) ≡ turn (Open (Held 0) 0 4) More
unfolding turn_after_read
four_bytes = refl

-- the line, in a buffer of 5 bytes
whole_line : of_piece 4 (piece_of (chunk_rest 0 4 chunk) 0 5 (Held 0)) ≡ turn (Open (Held 0) 3 4) (Whole 3)
unfolding chunk_rest piece_of index_of fits_of
whole_line = refl

-- the byte that begins the next, and not the two that no read filled
part_held : of_piece 4 (piece_of (chunk_rest 3 4 chunk) 3 5 (Held 0)) ≡ turn (Open (Held 1) 4 4) More
unfolding chunk_rest piece_of index_of fits_of
part_held = refl

-- bytes are left at index 3, and at index 4 none are
left : (some_left 3 4 6 ≡ true) × (some_left 4 4 6 ≡ false)
left = (refl, refl)

-- the end, with a byte held and with none, and by a read that failed
ends : (turn_after_read (Held 1) (Some 0) ≡ turn Ended Bad) × (turn_after_read (Held 0) (Some 0) ≡ turn Ended More) × (turn_after_read (Held 0) None ≡ turn Failed More)
unfolding turn_after_read
ends = (refl, refl, refl)

-- Small examples, by computation.
use mathlib.Core.Bool.{true, false}
use mathlib.Core.List.{List, [], ◌∷◌, ◌++◌}
use Rattle.std.specs.Prelude.{None, Some}
use mathlib.Core.Path.{◌≡◌, refl}
use Prim.Native.Nat.{ℕ, ◌-◌, ◌^◌}
use lib.ListN.{replicate}
use Rattle.common.specs.declared.errno.Errno.TheVariants.{TooBig, Invalid}
use Rattle.octets.specs.Bytes.{blank, index_of, lf, put_at, split}
use Rattle.octets.proofs.OctetsExamples.{abc, zeros}
use Rattle.console.specs.Command.{body_command_of, before_lf, command_of, digits, ended_of, field_number, numbers_of, skipped_of, decimal_from, with_numbers, command_word}
use Rattle.console.specs.Lines.{piece_buffer, fits_of, line_at_end, piece, piece_of}
use Rattle.console.specs.Format.{carried_text, decimal_in, decimal_of, error_text, error_word, refusal_text}
use Rattle.console.specs.declared.lines.Partial.TheVariants.{Held, Skipped}
use Rattle.console.specs.declared.lines.Line.TheVariants.{More, Whole, Bad}

-- ---- lines, in a buffer of 5 bytes

-- `abc` and its LF, and a byte of the next line
whole_piece : piece_of (abc ++ (lf ∷ 97 ∷ [])) 7 5 (Held 0) ≡ piece 11 (Held 0) (Whole 4)
unfolding piece_of index_of fits_of
whole_piece = refl

whole_buffer : piece_buffer (abc ++ (lf ∷ 97 ∷ [])) zeros (Held 0) ≡ 97 ∷ 98 ∷ 99 ∷ lf ∷ 0 ∷ []
unfolding piece_buffer index_of fits_of put_at
whole_buffer = refl

-- four bytes and the LF fit, five do not
full_line : piece_of (97 ∷ abc ++ (lf ∷ [])) 0 5 (Held 0) ≡ piece 5 (Held 0) (Whole 5)
unfolding piece_of index_of fits_of
full_line = refl

long_line : piece_of (97 ∷ 97 ∷ abc ++ (lf ∷ [])) 0 5 (Held 0) ≡ piece 6 (Held 0) Bad
unfolding piece_of index_of fits_of
long_line = refl

long_buffer : piece_buffer (97 ∷ 97 ∷ abc ++ (lf ∷ [])) zeros (Held 0) ≡ zeros
unfolding piece_buffer index_of fits_of
long_buffer = refl

-- one byte is held, and three more come with no LF; a fourth leaves no room for the LF
more_piece : piece_of abc 2 5 (Held 1) ≡ piece 5 (Held 4) More
unfolding piece_of index_of fits_of
more_piece = refl

more_buffer : piece_buffer abc (9 ∷ replicate 4 0) (Held 1) ≡ 9 ∷ 97 ∷ 98 ∷ 99 ∷ 0 ∷ []
unfolding piece_buffer index_of fits_of put_at
more_buffer = refl

skipped_piece : piece_of (97 ∷ abc) 0 5 (Held 1) ≡ piece 4 Skipped More
unfolding piece_of index_of fits_of
skipped_piece = refl

-- the rest of a line that is skipped, up to its LF
bad_piece : piece_of (97 ∷ lf ∷ abc) 0 5 Skipped ≡ piece 2 (Held 0) Bad
unfolding piece_of index_of fits_of
bad_piece = refl

-- past the end of the chunk
nothing_piece : piece_of [] 9 5 (Held 1) ≡ piece 9 (Held 1) More
unfolding piece_of index_of fits_of
nothing_piece = refl

ends : (line_at_end (Held 0) ≡ More) × (line_at_end (Held 3) ≡ Bad) × (line_at_end Skipped ≡ Bad)
ends = (refl, refl, refl)

-- ---- commands

-- `abc 007 12`, LF
two_numbers : command_of (abc ++ (blank ∷ 48 ∷ 48 ∷ 55 ∷ blank ∷ 49 ∷ 50 ∷ lf ∷ [])) ≡ Some (with_numbers 3 (7 ∷ 12 ∷ []))
unfolding command_of body_command_of before_lf ended_of index_of split numbers_of field_number digits decimal_from
two_numbers = refl

-- no numbers
word_alone : command_of (abc ++ (lf ∷ [])) ≡ Some (with_numbers 3 [])
unfolding command_of body_command_of before_lf ended_of index_of split numbers_of
word_alone = refl

-- six numbers, and seven
six_numbers : command_of (97 ∷ blank ∷ 49 ∷ blank ∷ 49 ∷ blank ∷ 49 ∷ blank ∷ 49 ∷ blank ∷ 49 ∷ blank ∷ 49 ∷ lf ∷ []) ≡ Some (with_numbers 1 (replicate 6 1))
unfolding command_of body_command_of before_lf ended_of index_of split numbers_of field_number digits decimal_from
six_numbers = refl

seven_numbers : command_of (97 ∷ blank ∷ 49 ∷ blank ∷ 49 ∷ blank ∷ 49 ∷ blank ∷ 49 ∷ blank ∷ 49 ∷ blank ∷ 49 ∷ blank ∷ 49 ∷ lf ∷ []) ≡ None
unfolding command_of body_command_of before_lf ended_of index_of split numbers_of field_number digits decimal_from
seven_numbers = refl

-- two blanks, a blank at the end, a letter, no LF, an LF inside
two_blanks : command_of (97 ∷ blank ∷ blank ∷ 49 ∷ lf ∷ []) ≡ None
unfolding command_of body_command_of before_lf ended_of index_of split numbers_of field_number digits decimal_from
two_blanks = refl

blank_last : command_of (97 ∷ blank ∷ lf ∷ []) ≡ None
unfolding command_of body_command_of before_lf ended_of index_of split numbers_of field_number
blank_last = refl

letter : command_of (97 ∷ blank ∷ 49 ∷ 97 ∷ lf ∷ []) ≡ None
unfolding command_of body_command_of before_lf ended_of index_of split numbers_of field_number digits
letter = refl

no_lf : command_of (97 ∷ blank ∷ 49 ∷ []) ≡ None
unfolding command_of ended_of index_of
no_lf = refl

two_lfs : command_of (97 ∷ lf ∷ 97 ∷ lf ∷ []) ≡ None
unfolding command_of ended_of index_of
two_lfs = refl

-- 2 ^ 64 - 1 is a number, 2 ^ 64 is none
abbrev all_but_last : List ℕ
all_but_last = 49 ∷ 56 ∷ 52 ∷ 52 ∷ 54 ∷ 55 ∷ 52 ∷ 52 ∷ 48 ∷ 55 ∷ 51 ∷ 55 ∷ 48 ∷ 57 ∷ 53 ∷ 53 ∷ 49 ∷ 54 ∷ 49 ∷ []

largest : field_number (48 ∷ all_but_last ++ (53 ∷ [])) ≡ Some (2 ^ 64 - 1)
unfolding field_number digits decimal_from
largest = refl

too_large : field_number (all_but_last ++ (54 ∷ [])) ≡ None
unfolding field_number digits decimal_from
too_large = refl

-- the word ends at a blank, at the LF, or at the end
words : (command_word (abc ++ (blank ∷ 49 ∷ lf ∷ [])) ≡ abc) × (command_word (abc ++ (lf ∷ [])) ≡ abc) × (command_word abc ≡ abc)
unfolding command_word before_lf index_of split
words = (refl, refl, refl)

-- an empty line and a comment are skipped; a word, and no bytes at all, are not
skips : (skipped_of (lf ∷ []) ≡ true) × (skipped_of (35 ∷ abc) ≡ true) × (skipped_of abc ≡ false) × (skipped_of [] ≡ false)
unfolding skipped_of
skips = (refl, refl, refl, refl)

-- ---- text

digits_of : (decimal_of 0 ≡ 48 ∷ []) × (decimal_of 10 ≡ 49 ∷ 48 ∷ []) × (decimal_of 507 ≡ 53 ∷ 48 ∷ 55 ∷ [])
unfolding decimal_of decimal_in
digits_of = (refl, refl, refl)

-- `error 22`, LF
error_22 : error_text Invalid ≡ 101 ∷ 114 ∷ 114 ∷ 111 ∷ 114 ∷ 32 ∷ 50 ∷ 50 ∷ 10 ∷ []
unfolding error_text refusal_text error_word carried_text decimal_of decimal_in
error_22 = refl

-- `error 7 40`, LF
error_7 : error_text (TooBig 40) ≡ 101 ∷ 114 ∷ 114 ∷ 111 ∷ 114 ∷ 32 ∷ 55 ∷ 32 ∷ 52 ∷ 48 ∷ 10 ∷ []
unfolding error_text refusal_text error_word carried_text decimal_of decimal_in
error_7 = refl

-- Document 01's hex lines, and lines that have a fault, computed from the definitions.
use mathlib.Core.List.{List, [], ◌∷◌, ◌++◌}
use Rattle.std.specs.Prelude.{None}
use mathlib.Core.Path.{◌≡◌, refl}
use Prim.Native.Nat.{ℕ, ◌^◌}
use lib.ListN.{replicate}
use Rattle.common.specs.Answer.{granted, refused}
use Rattle.common.specs.Index.{every, tabulate}
use Rattle.label.specs.Label
use Rattle.label.specs.Label.{equal_of, label_of, zero_label}
use Rattle.label.specs.Words.{bit, has, includes_of, same_of}
use Rattle.frame.specs.Frame.{body_of, bytes_of, check_byte, digit_of, digits_of, frame_of, framed_of, is_digit, spelled_of, sum_of, digit_value}
use Rattle.octets.specs.Bytes.{ascii}
use Rattle.label_codec.specs.Body.{category_byte, label_bytes, line_words, base_number}
use Rattle.alias_entry.specs.Entry
use Rattle.alias_entry.specs.Entry.{abbreviation_size, abbreviation_text, entry_bytes, entry_from, entry_of, is_letter, is_name_byte, label_from, layout_of, name_byte_ok, name_of, name_text, text_byte, text_from, value_bytes, value_by_class, value_ok, value_size}
use Rattle.hexline.specs.Line.{contents_of, entry_body, entry_form, entry_line_of, body_form, line_kind_of, read_entry_line, read_tuple_line, tuple_form}
use Rattle.label_codec.specs.Tuples.{present_below}
use Rattle.alias_entry.specs.declared.Entry.{Entry}
use Rattle.alias_entry.specs.declared.Value.TheVariants.{Category, Hierarchy}

-- "low" is hierarchy 20
low_line : List ℕ
low_line = ascii "040114036c6f770092\n"

low : Entry
low =
    entry_of (Hierarchy 20) zero_label (name_text (ascii "low" ++ replicate 29 0) 3) (abbreviation_text (replicate abbreviation_size 0) 0)

-- "east", short "e", is category 7
east_line : List ℕ
east_line = ascii "04020704656173740165dc\n"

east : Entry
east =
    entry_of (Category 7) zero_label (name_text (ascii "east" ++ replicate 28 0) 4) (abbreviation_text (ascii "e" ++ replicate 15 0) 1)

-- the same with its sum one too high
east_wrong : List ℕ
east_wrong = ascii "04020704656173740165dd\n"

-- a line is written of its contents, and read as them
low_written : entry_line_of low ≡ granted low_line
unfolding low_line low Label.valid_of Entry.valid_of value_ok name_of name_byte_ok is_name_byte is_letter equal_of same_of includes_of every entry_body entry_bytes value_bytes frame_of digits_of digit_of check_byte sum_of
low_written = refl

low_read : read_entry_line low_line ≡ granted low
unfolding low_line low Label.valid_of Entry.valid_of value_ok name_of name_byte_ok is_name_byte is_letter equal_of same_of includes_of every entry_form layout_of value_size entry_from value_by_class label_from text_from text_byte tabulate framed_of spelled_of bytes_of body_of digit_value is_digit sum_of contents_of body_form
low_read = refl

east_written : entry_line_of east ≡ granted east_line
unfolding east_line east Entry.valid_of value_ok name_of name_byte_ok is_name_byte is_letter equal_of same_of includes_of every entry_body entry_bytes value_bytes frame_of digits_of digit_of check_byte sum_of
east_written = refl

east_read : read_entry_line east_line ≡ granted east
unfolding east_line east Entry.valid_of value_ok name_of name_byte_ok is_name_byte is_letter equal_of same_of includes_of every entry_form layout_of value_size entry_from value_by_class label_from text_from text_byte tabulate framed_of spelled_of bytes_of body_of digit_value is_digit sum_of contents_of body_form
east_read = refl

-- a wrong sum, and a line that is for another reader
wrong_sum : read_entry_line east_wrong ≡ refused 22 None
unfolding east_wrong framed_of spelled_of bytes_of body_of digit_value is_digit sum_of contents_of body_form
wrong_sum = refl

other_kind : read_tuple_line east_line ≡ refused 22 None
unfolding east_line tuple_form present_below bit framed_of spelled_of bytes_of body_of digit_value is_digit sum_of contents_of body_form
other_kind = refl

kind_told : line_kind_of east_line ≡ granted 4
unfolding east_line framed_of spelled_of bytes_of body_of digit_value is_digit sum_of contents_of body_form
kind_told = refl

-- (30,{1,2}): hierarchy 30, then 6 in the first of 32 bytes; category 255 is the highest bit of the last
label_bytes_lem : label_bytes line_words (label_of 30 (6 ∷ 0 ∷ 0 ∷ 0 ∷ [])) ≡ 30 ∷ 6 ∷ replicate 31 0
unfolding label_bytes category_byte base_number has bit tabulate
label_bytes_lem = refl

last_category : label_bytes line_words (label_of 0 (0 ∷ 0 ∷ 0 ∷ (2 ^ 63) ∷ [])) ≡ replicate 32 0 ++ (128 ∷ [])
unfolding label_bytes category_byte base_number has bit tabulate
last_category = refl

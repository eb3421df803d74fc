-- Texts, and tables and texts with a fault, computed from the definitions.
use mathlib.Core.Bool.{true, false}
use mathlib.Core.List.{List, [], ◌∷◌, ◌++◌}
use Rattle.std.specs.Prelude.{None, Some}
use mathlib.Core.Path.{◌≡◌, refl}
use Prim.Native.Nat.{ℕ}
use Rattle.common.specs.Answer.{granted, refused}
use Rattle.label.specs.Caller.{sees_of}
use Rattle.common.specs.Index.{every, first_from, last_below, tabulate}
use Rattle.label.specs.Label
use Rattle.label.specs.Label.{dominates_of, equal_of}
use Rattle.label.specs.Words.{bit, combine, has, includes_of, members_below, members_of, same_of, single_of, union_of}
use Rattle.label.specs.declared.Label.{Label}
use Rattle.label.specs.declared.caller.Caller.{Caller}
use Rattle.label.specs.Example.{example_of}
use Rattle.range.specs.Range
use Rattle.frame.specs.Frame.{body_of, bytes_of, framed_of, is_digit, spelled_of, sum_of, digit_value}
use Rattle.octets.specs.Bytes.{ascii, index_of, same_bytes, split}
use Rattle.alias_entry.specs.Entry as entries
use Rattle.alias_entry.specs.Entry.{entry_from, is_letter, is_name_byte, label_from, layout_of, name_byte_ok, name_of, text_byte, text_from, value_by_class, value_ok, value_size}
use Rattle.alias_entry.specs.declared.Entry.{Entry}
use Rattle.hexline.specs.Line.{contents_of, entry_form, body_form, standing_in}
use Rattle.octets.specs.Lines.{lines_of}
use Rattle.alias.specs.Lines.{entries_of, indexed_of}
use Rattle.alias.specs.Lookup.{called_of, find_of, last_entry_for, same_value, stands_for}
use Rattle.alias.specs.Table.{bad_at, check_table, judged_lines, repeats_at, shares_of}
use Rattle.text.specs.Read.{categories_read, category_named, composed_of, entry_named, hierarchy_named, label_in_text, label_named, label_seen, plain, read_label_text}
use Rattle.text.specs.Write.{categories_named, categories_text, definition_named, definition_text, low_text, name_for, named, named_in, text_in, write_label_of, write_range_of, written_name}
use Rattle.text.specs.declared.Form.TheVariants.{Definition}
use Rattle.text.specs.declared.Style.{Style}
use Rattle.text.specs.declared.Variant.TheVariants.{Names}

-- document 01's table: "low" is hierarchy 20; "east", short "e", is category 7
abbrev low_line : List ℕ
low_line = ascii "040114036c6f770092\n"

abbrev table : List ℕ
table = low_line ++ ascii "04020704656173740165dc\n"

abbrev low : Label
low = example_of 20 []

abbrev low_east : Label
low_east = example_of 20 (7 ∷ [])

abbrev subject : Label → Caller
subject l = record { label = l; read_override = false }

abbrev style : Style
style = record { form = Definition; variant = Names }

abbrev low_east_text : List ℕ
low_east_text = ascii "low:east"

-- ---- one claim about tables, and one about texts

-- the whole table is good; the later of two repeats is bad, a line that does not end, and the one after the last where the table is cut off
tables : (check_table false table ≡ granted (indexed_of (lines_of table))) × (check_table false (table ++ low_line) ≡ refused 22 (Some 2))
    × (check_table false (low_line ++ ascii "0") ≡ refused 22 (Some 1)) × (check_table true table ≡ refused 22 (Some 2))
unfolding check_table judged_lines bad_at repeats_at shares_of called_of same_bytes lines_of entries_of standing_in first_from every tabulate contents_of entry_form body_form entry_from layout_of value_size value_by_class label_from text_from text_byte entries.valid_of value_ok name_of name_byte_ok is_name_byte is_letter Label.valid_of equal_of same_of includes_of framed_of spelled_of bytes_of body_of digit_value is_digit sum_of
tables = (refl, refl, refl, refl)

abbrev entries_here : List Entry
entries_here = entries_of (lines_of table)

-- for the subject (20,{}) (20,{7}) is out of sight, and [(20,{}),(20,{7})] is `-L low -H ?` with status 1; category 9 has no name. The text
-- reads back, and is refused for that subject, as is `low:east,e`
texts : (write_label_of entries_here (subject low) style low_east ≡ refused 13 None)
    × (write_label_of entries_here (subject (example_of 20 (9 ∷ []))) style (example_of 20 (9 ∷ [])) ≡ refused 2 None)
    × (write_range_of entries_here (subject low) style (Range.range_of low low_east) ≡ granted (record { status = 1; text = ascii "-L low -H ?" }))
    × (read_label_text entries_here (subject low_east) low_east_text ≡ granted low_east)
    × (read_label_text entries_here (subject low) low_east_text ≡ plain)
    × (read_label_text entries_here (subject low_east) (ascii "low:east,e") ≡ plain)
unfolding lines_of entries_of standing_in called_of same_bytes first_from last_below every tabulate entry_from layout_of value_size value_by_class label_from text_from text_byte Label.valid_of Range.valid_of dominates_of equal_of same_of includes_of combine union_of single_of bit has members_below members_of bytes_of body_of digit_value is_digit find_of last_entry_for same_value stands_for sees_of categories_named categories_text definition_named definition_text low_text name_for named named_in text_in written_name write_label_of write_range_of index_of split categories_read category_named composed_of entry_named hierarchy_named label_in_text label_named label_seen read_label_text
texts = (refl, refl, refl, refl, refl, refl)

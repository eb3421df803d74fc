-- The examples marked P hold, by computation, some at a time.
use mathlib.Core.List.{List, [], ◌∷◌}
use mathlib.Core.Path.{refl}
use Prim.Native.Nat.{ℕ, zero, suc}
use lib.ListN.{drop, take}
use Rattle.common.specs.Buffer.{length_of}
use Rattle.label.specs.Caller.{sees_of}
use Rattle.common.specs.Index.{every, first_from, last_below, sum_from, tabulate}
use Rattle.label.specs.Label
use Rattle.label.specs.Region.{region_of}
use Rattle.label.specs.Words.{bit, combine, has, includes_of, intersection_of, members_below, members_of, same_of, union_of}
use Rattle.range.specs.Range
use Rattle.range.specs.Tuple
use Rattle.frame.specs.Frame.{body_of, bytes_of, check_byte, digit_of, digits_of, frame_of, framed_of, is_digit, spelled_of, sum_of, digit_value}
use Rattle.octets.specs.Bytes.{same_bytes}
use Rattle.label_codec.specs.Body.{base_number}
use Rattle.alias_entry.specs.Entry
use Rattle.hexline.specs.Line.{contents_of, entry_form, body_form, standing_in, tuple_body, tuple_form}
use Rattle.label_codec.specs.Tuples.{presence_of, present_below, region_at, region_bytes, regions_bytes, tuple_at}
use Rattle.octets.specs.Lines.{lines_of}
use Rattle.alias.specs.Lines.{entries_of}
use Rattle.alias.specs.Lookup.{called_of, last_entry_for, same_value, stands_for}
use Rattle.alias.specs.Table
use Rattle.text.specs.Write
use Rattle.segments.specs.Calls
use Rattle.segment_table.specs.Operator
use Rattle.segment_table.specs.Slots
use Rattle.segment_table.specs.Sound
use Rattle.examples.specs.Examples.{Example, ExamplesHold, Hold, examples}

-- a list of examples holds where its first n do and the others do
hold_parts : (n : ℕ) (es : List Example) → Hold (take n es) → Hold (drop n es) → Hold es
unfolding Hold
hold_parts zero es h rest = rest
hold_parts (suc n) [] h rest = rest
hold_parts (suc n) (e ∷ es) h rest = (h.0, hold_parts n es h.1 rest)

labels_and_ranges : Hold (take 8 examples)
unfolding Hold every tabulate Label.valid_of Label.dominates_of Label.equal_of Label.upper_bound_of Label.lower_bound_of combine includes_of intersection_of same_of union_of Range.valid_of Range.common_of Range.meet_of Tuple.cut_of Tuple.split_of
labels_and_ranges = (refl, (refl, (refl, (refl, (refl, (refl, (refl, (refl, tt))))))))

lines : Hold (take 4 (drop 8 examples))
unfolding Hold every tabulate Label.valid_of Label.equal_of includes_of same_of bit Tuple.valid_at Tuple.valid_of body_of bytes_of check_byte digit_of digits_of frame_of framed_of is_digit spelled_of sum_of digit_value base_number contents_of body_form tuple_body tuple_form presence_of present_below region_at region_bytes regions_bytes tuple_at
lines = (refl, (refl, (refl, (refl, tt))))

texts : Hold (take 3 (drop 12 examples))
unfolding Hold length_of every first_from last_below tabulate Label.valid_of Label.dominates_of Label.equal_of Range.valid_of bit has includes_of members_below members_of same_of body_of bytes_of framed_of is_digit spelled_of sum_of digit_value same_bytes Entry.entry_from Entry.is_letter Entry.is_name_byte Entry.label_from Entry.layout_of Entry.name_byte_ok Entry.name_of Entry.text_byte Entry.text_from Entry.valid_of Entry.value_by_class Entry.value_ok Entry.value_size contents_of entry_form body_form standing_in entries_of lines_of called_of last_entry_for same_value stands_for Table.bad_at Table.check_table Table.judged_lines Table.repeats_at Table.shares_of sees_of Write.categories_named Write.categories_text Write.definition_named Write.definition_text Write.low_text Write.name_for Write.named Write.named_in Write.text_in Write.written_name Write.write_label_of Write.write_range_of
texts = (refl, (refl, (refl, tt)))

board : Hold (drop 15 examples)
unfolding Hold every first_from sum_from Label.valid_of Label.dominates_of Label.equal_of includes_of same_of region_of Range.valid_of Range.contains_of Tuple.valid_at Tuple.valid_of Tuple.contains_at Tuple.contains_of Tuple.empty_of Slots.first_slot Slots.slot_count Slots.owns Slots.filled Slots.lowest_empty Slots.pages_of Slots.ceilings_of Sound.admitted Sound.tenant_sound Sound.cleared_by Sound.is_zero_segment Sound.slot_sound Sound.under_ceiling Sound.sound Operator.make_answer Operator.make_of Operator.admit_answer Operator.admit_of Calls.call_valid Calls.cleared Calls.writable Calls.access_of Calls.decision_on Calls.step_of
board = (refl, tt)

pub examples_hold : ExamplesHold
examples_hold = hold_parts 8 examples labels_and_ranges (hold_parts 4 (drop 8 examples) lines (hold_parts 3 (drop 12 examples) texts board))

-- How long a text is, for functions that are not public: a writer measures a text before it writes it.
use Rattle.std.specs.Prelude.{Bool, true, false, cond, ◌&&◌, List, ◌++◌, ◌≡◌, ℕ, ◌+◌, ◌*◌, ◌≤◌, leb, length, Option, None, Some}
use Rattle.common.specs.Answer.{Answer, granted, refused}
use Rattle.label.specs.Words.{words}
use Rattle.range.specs.declared.Range.{Range}
use Rattle.alias_entry.specs.Entry.{name_size}
use Rattle.hexline.specs.Line.{abbreviation_in, name_in}
use Rattle.alias_entry.specs.declared.Entry.{Entry}
use Rattle.alias_entry.specs.declared.bytes.Span.{Span}
use Rattle.text.specs.Write.{all_named, hidden_high, high_marker, label_text, low_marker}
use Rattle.text.specs.declared.Style.{Style}
use Rattle.text.specs.declared.Variant.{Variant}
use Rattle.text.specs.declared.Variant.TheVariants.{Names, Abbreviations}

-- what is answered of a text of a measure where a buffer has room for so many bytes
abbrev pub room_of : Option ℕ → ℕ → Answer ℕ
room_of None room = refused 2 None
room_of (Some n) room = cond (leb n room) (granted n) (refused 7 (Some n))

-- where the name that is written stands in the line of an entry
unfoldable pub written_in : Variant → List ℕ → Span
written_in Names line = name_in line
written_in Abbreviations line = cond (leb 1 (abbreviation_in line).length) (abbreviation_in line) (name_in line)

-- bounds on the bytes of the names of categories with their marks, and of a label: as many as their arrays have
abbrev pub max_categories : ℕ
max_categories = words * 64 * (1 + name_size)

abbrev pub max_label : ℕ
max_label = name_size + max_categories

-- a range that is shown with both ends, or with the low end only: whether all names are there, its text, its status, and the most bytes
abbrev pub high_named : List Entry → Style → Range → Bool → Bool
high_named es style x true = all_named es style x.high
high_named es style x false = true

abbrev pub high_text : List Entry → Style → Range → Bool → List ℕ
high_text es style x true = high_marker ++ label_text es style x.high
high_text es style x false = hidden_high

abbrev pub range_named : List Entry → Style → Range → Bool → Bool
range_named es style x whole = all_named es style x.low && high_named es style x whole

abbrev pub range_text : List Entry → Style → Range → Bool → List ℕ
range_text es style x whole = low_marker ++ label_text es style x.low ++ high_text es style x whole

abbrev pub status_of : Bool → ℕ
status_of whole = cond whole 0 1

abbrev pub max_range : ℕ
max_range = 7 + max_label + max_label

-- r is the length of a text where all its names are there. The second follows, and is stated for callers
pub record MeasuredText (is_named : Bool) (text : List ℕ) (most : ℕ) (r : Option ℕ) : Type 0 where
  pub measure : r ≡ cond is_named (Some (length text)) None
  pub at_most_lem : (n : ℕ) → r ≡ Some n → n ≤ most

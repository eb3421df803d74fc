-- Document 01, "Names and text": labels and ranges as text.
use Rattle.std.specs.Prelude.{Bool, true, false, cond, ◌&&◌, List, [], ◌∷◌, ◌++◌, ◌≡◌, ℕ, is_some, leb, length, Option, None, Some, Result, Ok, Err}
use Rattle.common.specs.Answer.{Answer, and_then, granted, is_granted, refused, require}
use Rattle.common.specs.Buffer.{WrittenTo, length_of}
use Rattle.label.specs.Caller.{caller_valid, sees_of}
use Rattle.label.specs.Label
use Rattle.label.specs.Words.{members_of}
use Rattle.label.specs.declared.Label.{Label}
use Rattle.label.specs.declared.caller.Caller.{Caller}
use Rattle.range.specs.Range
use Rattle.range.specs.declared.Range.{Range}
use Rattle.octets.specs.Bytes.{ascii}
use Rattle.alias_entry.specs.Entry.{abbreviation_bytes, name_bytes}
use Rattle.alias_entry.specs.declared.Entry.{Entry}
use Rattle.alias_entry.specs.declared.Value.{Value}
use Rattle.alias_entry.specs.declared.Value.TheVariants.{Hierarchy, Category, WholeLabel}
use Rattle.alias.specs.Lines.{entry_at}
use Rattle.alias.specs.Lookup.{last_entry_for}
use Rattle.text.specs.declared.Form.{Form}
use Rattle.text.specs.declared.Form.TheVariants.{Definition, Alias}
use Rattle.common.specs.declared.errno.Errno.{Errno}
use Rattle.text.specs.declared.RangeWritten.{RangeWritten}
use Rattle.text.specs.declared.Style.{Style}
use Rattle.text.specs.declared.Variant.{Variant}
use Rattle.text.specs.declared.Variant.TheVariants.{Names, Abbreviations}

-- ---- marks

-- `:`
abbrev pub colon : ℕ
colon = 58

-- `,`
abbrev pub comma : ℕ
comma = 44

abbrev pub low_marker : List ℕ
low_marker = ascii "-L "

abbrev pub high_marker : List ℕ
high_marker = ascii " -H "

abbrev pub hidden_high : List ℕ
hidden_high = ascii " -H ?"

-- ---- names

-- the name that is written of an entry; the abbreviated variant uses the abbreviation where it is not empty
unfoldable pub written_name : Variant → Entry → List ℕ
written_name Names e = name_bytes e
written_name Abbreviations e = cond (leb 1 (length (abbreviation_bytes e))) (abbreviation_bytes e) (name_bytes e)

abbrev pub name_or : Variant → List Entry → Option ℕ → List ℕ
name_or v es None = []
name_or v es (Some k) = written_name v (entry_at es k)

-- the name for a value: that of the last entry for it, and nothing where there is none
unfoldable pub name_for : List Entry → Variant → Value → Label → List ℕ
name_for es v value l = name_or v es (last_entry_for es value l)

-- whether a value has a name
unfoldable pub named : List Entry → Value → Label → Bool
named es value l = is_some (last_entry_for es value l)

-- ---- definition form: hierarchy name, and if there are categories `:` and their names joined by `,`

-- the names of categories, each with a mark before it: the first has `mark`, the others `,`
unfoldable pub categories_text : List Entry → Variant → ℕ → List ℕ → List ℕ
categories_text es v mark [] = []
categories_text es v mark (c ∷ cs) = mark ∷ name_for es v (Category c) Label.zero_label ++ categories_text es v comma cs

unfoldable pub categories_named : List Entry → List ℕ → Bool
categories_named es [] = true
categories_named es (c ∷ cs) = named es (Category c) Label.zero_label && categories_named es cs

unfoldable pub definition_text : List Entry → Variant → Label → List ℕ
definition_text es v l = name_for es v (Hierarchy l.hierarchy) Label.zero_label ++ categories_text es v colon (members_of l.categories)

-- whether each number that the definition form needs has a name
unfoldable pub definition_named : List Entry → Label → Bool
definition_named es l = named es (Hierarchy l.hierarchy) Label.zero_label && categories_named es (members_of l.categories)

-- ---- alias form: the last class 3 entry for that label, otherwise the definition form

unfoldable pub text_in : List Entry → Form → Variant → Label → List ℕ
text_in es Definition v l = definition_text es v l
text_in es Alias v l = cond (named es WholeLabel l) (name_for es v WholeLabel l) (definition_text es v l)

unfoldable pub named_in : List Entry → Form → Label → Bool
named_in es Definition l = definition_named es l
named_in es Alias l = cond (named es WholeLabel l) true (definition_named es l)

abbrev pub label_text : List Entry → Style → Label → List ℕ
label_text es style l = text_in es style.form style.variant l

abbrev pub all_named : List Entry → Style → Label → Bool
all_named es style l = named_in es style.form l

-- ---- writing a label: bad label or subject 22; out of sight 13; a number that has no name 2

unfoldable pub write_label_of : List Entry → Caller → Style → Label → Answer (List ℕ)
write_label_of es c style l =
    require (Label.valid_of l && caller_valid c) 22 (require (sees_of c l) 13 (require (all_named es style l) 2 (granted (label_text es style l))))

-- ---- writing a range

-- `-L low -H high`
unfoldable pub whole_text : List Entry → Style → Range → List ℕ
whole_text es style x = low_marker ++ label_text es style x.low ++ high_marker ++ label_text es style x.high

-- `-L low -H ?`
unfoldable pub low_text : List Entry → Style → Range → List ℕ
low_text es style x = low_marker ++ label_text es style x.low ++ hidden_high

-- a status and the text
pub record Shown : Type 0 where
  pub status : ℕ
  pub text : List ℕ

abbrev pub shown : Bool → ℕ → List ℕ → Answer Shown
shown is_named status text = require is_named 2 (granted (record { status = status; text = text }))

-- status 0 if the subject may see both ends; status 1 if it may see the low end only, whose names alone are then looked up; else 13
unfoldable pub write_range_of : List Entry → Caller → Style → Range → Answer Shown
write_range_of es c style x =
    require (Range.valid_of x && caller_valid c) 22
    (require (sees_of c x.low) 13
    (cond (sees_of c x.high)
    (shown (all_named es style x.low && all_named es style x.high) 0 (whole_text es style x))
    (shown (all_named es style x.low) 1 (low_text es style x))))

abbrev pub text_of : Answer Shown → Answer (List ℕ)
text_of x = and_then x (λ (t : Shown). granted t.text)

-- the status beside what was written, 0 beside a refusal
abbrev pub status_or : Bool → Answer Shown → ℕ
status_or true (granted t) = t.status
status_or true (refused n detail) = 0
status_or false x = 0

-- of what the code answers of a range that was written, the length; and the status, 0 beside a refusal
abbrev pub length_written : Result RangeWritten Errno → Result ℕ Errno
length_written (Ok w) = Ok w.length
length_written (Err e) = Err e

abbrev pub status_written : Result RangeWritten Errno → ℕ
status_written (Ok w) = w.status
status_written (Err e) = 0

-- the code's answer to the writing of x, and what becomes of the buffer
pub record RangeWrittenTo (r : Result RangeWritten Errno) (x : Answer Shown) (before after : List ℕ) : Type 0 where
  pub written : WrittenTo (length_written r) (text_of x) before after
  pub status : status_written r ≡ status_or (is_granted (length_of (text_of x) (length before))) x

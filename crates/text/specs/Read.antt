-- Document 01, "Names and text": labels and ranges read from text. Malformed text, an unknown name and a label out of sight are the same plain 22.
--
use Rattle.std.specs.Prelude.{Bool, cond, not, List, [], ◌∷◌, ℕ, ◌+◌, ltb, drop, length, replicate, take, Option, None, Some}
use Rattle.common.specs.Answer.{Answer, and_then, granted, refused, require}
use Rattle.label.specs.Caller.{caller_valid, sees_of}
use Rattle.label.specs.Label
use Rattle.label.specs.Words.{includes_of, single_of, union_of, words}
use Rattle.label.specs.declared.Label.{Label}
use Rattle.label.specs.declared.caller.Caller.{Caller}
use Rattle.range.specs.Range
use Rattle.range.specs.declared.Range.{Range}
use Rattle.octets.specs.Bytes.{blank, index_of, same_bytes, split}
use Rattle.alias_entry.specs.declared.Entry.{Entry}
use Rattle.alias_entry.specs.declared.Value.{Value}
use Rattle.alias_entry.specs.declared.Value.TheVariants.{Hierarchy, Category, WholeLabel}
use Rattle.alias.specs.Lines.{entry_at}
use Rattle.alias.specs.Lookup.{find_of}
use Rattle.text.specs.Write.{colon, comma, hidden_high, high_marker, low_marker}

abbrev pub plain : {A : Type 0} → Answer A
plain = refused 22 None

-- ---- names, abbreviations among them

abbrev pub found_entry : List Entry → Option ℕ → Answer Entry
found_entry es None = plain
found_entry es (Some k) = granted (entry_at es k)

-- the entry that a text names
unfoldable pub entry_named : List Entry → List ℕ → Answer Entry
entry_named es text = found_entry es (find_of es text)

-- no categories
abbrev pub no_categories : List ℕ
no_categories = replicate words 0

-- the label of one name: of class 1 a hierarchy with no categories, of class 3 its label
abbrev pub label_by : Value → Label → Answer Label
label_by (Hierarchy h) l = granted (Label.label_of h no_categories)
label_by (Category c) l = plain
label_by WholeLabel l = granted l

abbrev pub hierarchy_by : Value → Answer ℕ
hierarchy_by (Hierarchy h) = granted h
hierarchy_by (Category c) = plain
hierarchy_by WholeLabel = plain

abbrev pub category_by : Value → Answer ℕ
category_by (Hierarchy h) = plain
category_by (Category c) = granted c
category_by WholeLabel = plain

unfoldable pub label_named : List Entry → List ℕ → Answer Label
label_named es text = and_then (entry_named es text) (λ (e : Entry). label_by e.value e.label)

unfoldable pub hierarchy_named : List Entry → List ℕ → Answer ℕ
hierarchy_named es text = and_then (entry_named es text) (λ (e : Entry). hierarchy_by e.value)

unfoldable pub category_named : List Entry → List ℕ → Answer ℕ
category_named es text = and_then (entry_named es text) (λ (e : Entry). category_by e.value)

-- ---- labels

-- the categories ws and those that names stand for, none of them twice
unfoldable pub categories_read : List Entry → List ℕ → List (List ℕ) → Answer (List ℕ)
categories_read es ws [] = granted ws
categories_read es ws (name ∷ names) =
    and_then (category_named es name)
    (λ (c : ℕ). require (not (includes_of ws (single_of c))) 22 (categories_read es (union_of ws (single_of c)) names))

-- a class 1 name, and class 2 names joined by `,`
unfoldable pub composed_of : List Entry → List ℕ → List ℕ → Answer Label
composed_of es name names =
    and_then (hierarchy_named es name)
    (λ (h : ℕ). and_then (categories_read es no_categories (split comma names)) (λ (ws : List ℕ). granted (Label.label_of h ws)))

-- the label that a text says: one name, or where it has a `:` what stands on its two sides
unfoldable pub label_in_text : List Entry → List ℕ → Answer Label
label_in_text es text =
    cond (ltb (index_of colon text) (length text)) (composed_of es (take (index_of colon text) text) (drop (index_of colon text + 1) text))
    (label_named es text)

-- the label that a text says, where the subject may see it
unfoldable pub label_seen : List Entry → Caller → List ℕ → Answer Label
label_seen es c text = and_then (label_in_text es text) (λ (l : Label). require (sees_of c l) 22 (granted l))

-- reading a label: a bad subject first
unfoldable pub read_label_text : List Entry → Caller → List ℕ → Answer Label
read_label_text es c text = require (caller_valid c) 22 (label_seen es c text)

-- ---- ranges

abbrev pub begins_with : List ℕ → List ℕ → Bool
begins_with marker text = same_bytes (take (length marker) text) marker

-- the text behind a marker, where it begins with it
abbrev pub behind : {A : Type 0} → List ℕ → List ℕ → (List ℕ → Answer A) → Answer A
behind marker text next = require (begins_with marker text) 22 (next (drop (length marker) text))

-- the range of a low end and the text of a high end, which has to dominate it
unfoldable pub range_from : List Entry → Caller → Label → List ℕ → Answer Range
range_from es c low text =
    and_then (label_seen es c text) (λ (high : Label). require (Label.dominates_of high low) 22 (granted (Range.range_of low high)))

-- the high end behind its marker; the form with `?` is no range
unfoldable pub high_of : List Entry → Caller → Label → List ℕ → Answer Range
high_of es c low text =
    require (not (same_bytes text hidden_high)) 22 (behind high_marker text (λ (high : List ℕ). range_from es c low high))

-- the low end goes up to the next blank; it is read first, and if that gives no label, its refusal is the answer
unfoldable pub ends_of : List Entry → Caller → List ℕ → Answer Range
ends_of es c text = and_then (label_seen es c (take (index_of blank text) text)) (λ (low : Label). high_of es c low (drop (index_of blank text) text))

-- reading a range
unfoldable pub read_range_text : List Entry → Caller → List ℕ → Answer Range
read_range_text es c text = require (caller_valid c) 22 (behind low_marker text (λ (ends : List ℕ). ends_of es c ends))

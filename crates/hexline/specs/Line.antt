-- Document 01, "Hex lines": the lines of labels, ranges, tuples and alias entries, kinds 01 to 04. A body is the kind, then the contents;
-- each definition is over the kind's number and the words that a set has in it.
use Rattle.std.specs.Prelude.{Bool, ◌&&◌, List, ◌∷◌, ℕ, ◌+◌, ◌*◌, ◌^◌, eqb, leb, ltb, length}
use Rattle.common.specs.Answer.{Answer, granted, require}
use Rattle.label.specs.Label
use Rattle.label.specs.Region.{regions}
use Rattle.label.specs.declared.Label.{Label}
use Rattle.range.specs.Range
use Rattle.range.specs.Tuple
use Rattle.range.specs.declared.Range.{Range}
use Rattle.range.specs.declared.tuple.Tuple.{Tuple}
use Rattle.label_codec.specs.Body.{byte_at, label_at, label_bytes, label_size, line_words, range_at, range_bytes, range_size}
use Rattle.alias_entry.specs.Entry
use Rattle.alias_entry.specs.Entry.{abbreviation_size, at_most, entry_bytes, entry_from, layout_of, max_abbreviation, max_name, name_size, past}
use Rattle.frame.specs.Frame.{body_of, frame_of, read_body}
use Rattle.label_codec.specs.Tuples.{presence_of, present_below, regions_bytes, tuple_at}
use Rattle.alias_entry.specs.declared.Entry.{Entry}
use Rattle.alias_entry.specs.declared.bytes.Span.{Span}
use Rattle.hexline.specs.declared.Kind.{Kind}
use Rattle.hexline.specs.declared.Kind.TheVariants as kinds

-- ---- what a kind has in common with the others

-- a body has so many bytes, and that kind
unfoldable pub body_form : List ℕ → ℕ → ℕ → Bool
body_form bs n kind = eqb (length bs) n && eqb (byte_at bs 0) kind

-- what is read of a body that has the kind's form: the contents that stand there, where they are valid, else 22
unfoldable pub contents_of : {A : Type 0} → (List ℕ → Bool) → (List ℕ → A) → (A → Bool) → List ℕ → Answer A
contents_of form contents valid bs = require (form bs && valid (contents bs)) 22 (granted (contents bs))

-- what is written: the line of a body, where its contents are valid, else 22
abbrev pub line_of : Bool → List ℕ → Answer (List ℕ)
line_of valid body = require valid 22 (granted (frame_of body))

-- ---- labels

unfoldable pub label_body : ℕ → ℕ → Label → List ℕ
label_body kind w l = kind ∷ label_bytes w l

unfoldable pub label_form : ℕ → ℕ → List ℕ → Bool
label_form kind w bs = body_form bs (1 + label_size w) kind

abbrev pub label_in_body : ℕ → List ℕ → Label
label_in_body w bs = label_at w bs 1

-- the line of a label, kind 01
abbrev pub label_line_of : Label → Answer (List ℕ)
label_line_of l = line_of (Label.valid_of l) (label_body 1 line_words l)

abbrev pub read_label_line : List ℕ → Answer Label
read_label_line = read_body (contents_of (label_form 1 line_words) (label_in_body line_words) Label.valid_of)

-- ---- ranges

unfoldable pub range_body : ℕ → ℕ → Range → List ℕ
range_body kind w x = kind ∷ range_bytes w x

unfoldable pub range_form : ℕ → ℕ → List ℕ → Bool
range_form kind w bs = body_form bs (1 + range_size w) kind

abbrev pub range_in : ℕ → List ℕ → Range
range_in w bs = range_at w bs 1

-- the line of a range, kind 02
abbrev pub range_line_of : Range → Answer (List ℕ)
range_line_of x = line_of (Range.valid_of x) (range_body 2 line_words x)

abbrev pub read_range_line : List ℕ → Answer Range
read_range_line = read_body (contents_of (range_form 2 line_words) (range_in line_words) Range.valid_of)

-- ---- tuples

unfoldable pub tuple_body : ℕ → ℕ → Tuple → List ℕ
tuple_body kind w t = kind ∷ presence_of t ∷ regions_bytes w t regions

-- the byte of presence has no bit but those of the regions, and the ranges that are there fill the body
unfoldable pub tuple_form : ℕ → ℕ → List ℕ → Bool
tuple_form kind w bs = ltb (byte_at bs 1) (2 ^ regions) && body_form bs (present_below (byte_at bs 1) regions * range_size w + 2) kind

abbrev pub tuple_in : ℕ → List ℕ → Tuple
tuple_in w bs = tuple_at w bs (byte_at bs 1) 2

-- the line of a tuple, kind 03
abbrev pub tuple_line_of : Tuple → Answer (List ℕ)
tuple_line_of t = line_of (Tuple.valid_of t) (tuple_body 3 line_words t)

abbrev pub read_tuple_line : List ℕ → Answer Tuple
read_tuple_line = read_body (contents_of (tuple_form 3 line_words) (tuple_in line_words) Tuple.valid_of)

-- ---- alias entries

unfoldable pub entry_body : ℕ → ℕ → Entry → List ℕ
entry_body kind w e = kind ∷ entry_bytes w e

-- lengths that fit, nothing past the abbreviation, and a class that there is
unfoldable pub entry_form : ℕ → ℕ → List ℕ → Bool
entry_form kind w bs =
    leb (layout_of w bs 1).name.length max_name && leb (layout_of w bs 1).abbreviation.length max_abbreviation
    && (body_form bs (past (layout_of w bs 1).abbreviation) kind && leb 1 (layout_of w bs 1).class && leb (layout_of w bs 1).class 3)

abbrev pub entry_in : ℕ → List ℕ → Entry
entry_in w bs = entry_from w bs 2 (layout_of w bs 1)

-- the line of an alias entry, kind 04
abbrev pub entry_line_of : Entry → Answer (List ℕ)
entry_line_of e = line_of (Entry.valid_of e) (entry_body 4 line_words e)

abbrev pub read_entry_line : List ℕ → Answer Entry
read_entry_line = read_body (contents_of (entry_form 4 line_words) (entry_in line_words) Entry.valid_of)

-- ---- the parts of the alias entry that stands in a line, whether or not the line is accepted: of an accepted line it is the entry that is
-- read (the law `entry_standing`)

unfoldable pub standing_in : List ℕ → Entry
standing_in line = entry_in line_words (body_of line)

-- where its name and its abbreviation stand in the line's body
unfoldable pub name_in : List ℕ → Span
name_in line = at_most name_size (layout_of line_words (body_of line) 1).name

unfoldable pub abbreviation_in : List ℕ → Span
abbreviation_in line = at_most abbreviation_size (layout_of line_words (body_of line) 1).abbreviation

-- ---- any line

-- the number of the code's kind
abbrev pub kind_number : Kind → ℕ
kind_number kinds.Label = 1
kind_number kinds.Range = 2
kind_number kinds.Tuple = 3
kind_number kinds.Entry = 4

-- no kind's body is longer than that of a tuple with all its ranges
abbrev pub longest_body : ℕ → ℕ
longest_body w = 2 + regions * range_size w

-- a number that is no kind's is refused with 22
abbrev pub kind_numbered : ℕ → Answer ℕ
kind_numbered kind = require (leb 1 kind && leb kind 4) 22 (granted kind)

-- what a body says: one that is longer than the longest is no body of any kind
abbrev pub kind_in : List ℕ → Answer ℕ
kind_in bs = require (leb (length bs) (longest_body line_words)) 22 (kind_numbered (byte_at bs 0))

-- the kind that a line says it has: a line that is no frame is refused with 22 too
abbrev pub line_kind_of : List ℕ → Answer ℕ
line_kind_of = read_body kind_in

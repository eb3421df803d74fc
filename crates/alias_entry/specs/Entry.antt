-- Document 01, "Hex lines" and "Names and text": an alias entry, and its bytes in a body.
use Rattle.std.specs.Prelude.{Bool, cond, ◌&&◌, ◌||◌, List, [], ◌∷◌, ◌++◌, ◌≡◌, ℕ, ◌+◌, ◌^◌, ◌<◌, min, eqb, leb, ltb, length, replicate, take}
use Rattle.common.specs.Index.{every, tabulate}
use Rattle.label.specs.Label
use Rattle.label.specs.declared.Label.{Label}
use Rattle.label_codec.specs.Body.{byte_at, label_at, label_bytes, label_size}
use Rattle.alias_entry.specs.declared.Entry.{Entry}
use Rattle.alias_entry.specs.declared.Abbreviation.{Abbreviation}
use Rattle.alias_entry.specs.declared.bytes.Layout.{Layout}
use Rattle.alias_entry.specs.declared.Name.{Name}
use Rattle.alias_entry.specs.declared.bytes.Span.{Span}
use Rattle.alias_entry.specs.declared.Value.{Value}
use Rattle.alias_entry.specs.declared.Value.TheVariants.{Hierarchy, Category, WholeLabel}

-- the most bytes of a name and of an abbreviation
abbrev pub max_name : ℕ
max_name = 31

abbrev pub max_abbreviation : ℕ
max_abbreviation = 15

-- the bytes of the arrays that hold them: a zero always ends them
abbrev pub name_size : ℕ
name_size = max_name + 1

abbrev pub abbreviation_size : ℕ
abbreviation_size = max_abbreviation + 1

abbrev pub name_text : List ℕ → ℕ → Name
name_text bs n = record { bytes = bs; length = n }

abbrev pub abbreviation_text : List ℕ → ℕ → Abbreviation
abbreviation_text bs n = record { bytes = bs; length = n }

abbrev pub entry_of : Value → Label → Name → Abbreviation → Entry
entry_of value label name abbreviation = record { value = value; label = label; name = name; abbreviation = abbreviation }

-- what stands beside a refusal
abbrev pub zero_entry : Entry
zero_entry = entry_of (Hierarchy 0) Label.zero_label (name_text (replicate name_size 0) 0) (abbreviation_text (replicate abbreviation_size 0) 0)

-- ---- which entries are valid

-- A to Z, a to z
unfoldable pub is_letter : ℕ → Bool
is_letter c = (leb 65 c && leb c 90) || (leb 97 c && leb c 122)

-- a letter, 0 to 9, `_`, `-` or `.`
unfoldable pub is_name_byte : ℕ → Bool
is_name_byte c = is_letter c || (leb 48 c && leb c 57) || eqb c 95 || eqb c 45 || eqb c 46

-- c may stand at index i where a name has n bytes: a byte of the name, or the zero past its end
unfoldable pub name_byte_ok : ℕ → ℕ → ℕ → Bool
name_byte_ok n i c = cond (ltb i n) (is_name_byte c) (eqb c 0)

abbrev pub name_byte_at : List ℕ → ℕ → ℕ → Bool
name_byte_at bs n i = name_byte_ok n i (byte_at bs i)

-- the first n bytes are a name, which begins with a letter, or nothing, and the rest are zeros, of which there is one at least
unfoldable pub name_of : List ℕ → ℕ → Bool
name_of bs n = ltb n (length bs) && (eqb n 0 || is_letter (byte_at bs 0)) && every (name_byte_at bs n) (length bs)

-- a text is a name, which begins with a letter, or nothing
unfoldable pub text_ok : List ℕ → Bool
text_ok text = (eqb (length text) 0 || is_letter (byte_at text 0)) && every (λ k. is_name_byte (byte_at text k)) (length text)

-- the value is one of its class: the hierarchy of a valid label, a category of one byte, a valid label. Where the class has no label, zeros
-- are held there
unfoldable pub value_ok : Value → Label → Bool
value_ok (Hierarchy h) l = Label.valid_of (Label.label_of h []) && Label.equal_of l Label.zero_label
value_ok (Category c) l = ltb c 256 && Label.equal_of l Label.zero_label
value_ok WholeLabel l = Label.valid_of l

unfoldable pub valid_of : Entry → Bool
valid_of e =
    value_ok e.value e.label && leb 1 e.name.length && name_of e.name.bytes e.name.length
    && name_of e.abbreviation.bytes e.abbreviation.length

-- ---- writing

abbrev pub value_class : Value → ℕ
value_class (Hierarchy h) = 1
value_class (Category c) = 2
value_class WholeLabel = 3

unfoldable pub value_bytes : ℕ → Value → Label → List ℕ
value_bytes w (Hierarchy h) l = h ∷ []
value_bytes w (Category c) l = c ∷ []
value_bytes w WholeLabel l = label_bytes w l

-- a length and that many bytes
abbrev pub text_bytes : List ℕ → ℕ → List ℕ
text_bytes bs n = n ∷ take n bs

-- class, value, name, abbreviation
unfoldable pub entry_bytes : ℕ → Entry → List ℕ
entry_bytes w e =
    value_class e.value ∷ value_bytes w e.value e.label ++ text_bytes e.name.bytes e.name.length
    ++ text_bytes e.abbreviation.bytes e.abbreviation.length

-- ---- reading

-- how many bytes a value has
unfoldable pub value_size : ℕ → ℕ → ℕ
value_size w class = cond (eqb class 3) (label_size w) 1

-- the text whose length is at index i
abbrev pub span_of : List ℕ → ℕ → Span
span_of bs i = record { at = i + 1; length = byte_at bs i }

-- the index past a text
abbrev pub past : Span → ℕ
past s = s.at + s.length

-- where the parts of an entry stand whose class is at index i: the value, then the name, then the abbreviation
abbrev pub name_span : ℕ → List ℕ → ℕ → Span
name_span w bs i = span_of bs (i + 1 + value_size w (byte_at bs i))

unfoldable pub layout_of : ℕ → List ℕ → ℕ → Layout
layout_of w bs i = record { class = byte_at bs i; name = name_span w bs i; abbreviation = span_of bs (past (name_span w bs i)) }

unfoldable pub value_by_class : ℕ → ℕ → Value
value_by_class class b = cond (eqb class 1) (Hierarchy b) (cond (eqb class 2) (Category b) WholeLabel)

unfoldable pub label_from : ℕ → List ℕ → ℕ → ℕ → Label
label_from w bs class i = cond (eqb class 3) (label_at w bs i) Label.zero_label

-- byte k of a text of n bytes from index i on, or the zero past its end
unfoldable pub text_byte : List ℕ → ℕ → ℕ → ℕ → ℕ
text_byte bs i n k = cond (ltb k n) (byte_at bs (i + k)) 0

-- such a text in an array of `most` bytes
unfoldable pub text_from : ℕ → List ℕ → ℕ → ℕ → List ℕ
text_from most bs i n = tabulate (text_byte bs i n) most

-- the entry of a layout, its value at index i
unfoldable pub entry_from : ℕ → List ℕ → ℕ → Layout → Entry
entry_from w bs i p =
    entry_of (value_by_class p.class (byte_at bs i)) (label_from w bs p.class i)
    (name_text (text_from name_size bs p.name.at p.name.length) p.name.length)
    (abbreviation_text (text_from abbreviation_size bs p.abbreviation.at p.abbreviation.length) p.abbreviation.length)

-- ---- the texts of an entry, and where they stand in a body

abbrev pub name_bytes : Entry → List ℕ
name_bytes e = take e.name.length e.name.bytes

abbrev pub abbreviation_bytes : Entry → List ℕ
abbreviation_bytes e = take e.abbreviation.length e.abbreviation.bytes

-- a span of so many bytes at most
abbrev pub at_most : ℕ → Span → Span
at_most most s = record { at = s.at; length = min s.length most }

-- what every value of the code's type Entry has (`entry::typed` proves it)
pub record TypedEntry (e : Entry) : Type 0 where
  pub label : Label.Typed e.label
  pub name_has_size : length e.name.bytes ≡ name_size
  pub name_byte : (i : ℕ) → byte_at e.name.bytes i < 2 ^ 8
  pub abbreviation_has_size : length e.abbreviation.bytes ≡ abbreviation_size
  pub abbreviation_byte : (i : ℕ) → byte_at e.abbreviation.bytes i < 2 ^ 8

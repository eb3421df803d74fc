-- The law of `Contents` at each kind: a body of the kind's form is not empty, and fits the buffer that its reader has. Also what such a form says.
use Rattle.std.specs.Prelude.{◌≡◌, Bool, true, false, ◌&&◌, ◌∷◌, cond, List, ℕ, ◌+◌, ◌*◌, ◌≤◌, ◌<◌, eqb, leb, ltb, length}
use native.Mathlib.Omega.{arith}
use borrow.Author.Tests.{eqb-true, leb-true, ltb-true}
use Rattle.common.proofs.BoolLaws.{first_true, second_true, three_true}
use Rattle.label.specs.Region.{regions}
use Rattle.range.specs.declared.tuple.Tuple.{Tuple}
use Rattle.label_codec.specs.Body.{byte_at, label_size, line_words, range_size}
use Rattle.label_codec.specs.Tuples.{presence_of, present_below, regions_bytes, tuple_size}
use Rattle.label_codec.proofs.TupleBytesLaws.{below_most}
use Rattle.alias_entry.specs.Entry.{layout_of, max_abbreviation, max_name, past, value_size}
use Rattle.alias_entry.specs.Internal.Spans.{entry_size}
use Rattle.hexline.specs.Line.{body_form, entry_form, label_form, longest_body, range_form, tuple_form}

-- a body is not empty, and has n bytes at most
abbrev pub Fits : ℕ → List ℕ → Type 0
Fits n bs = (1 ≤ length bs) × (length bs ≤ n)

pub form_length : (bs : List ℕ) (n kind : ℕ) → body_form bs n kind ≡ true → length bs ≡ n
unfolding body_form
form_length bs n kind e = eqb-true (length bs) n (first_true (eqb (length bs) n) (eqb (byte_at bs 0) kind) e)

pub form_kind : (bs : List ℕ) (n kind : ℕ) → body_form bs n kind ≡ true → byte_at bs 0 ≡ kind
unfolding body_form
form_kind bs n kind e = eqb-true (byte_at bs 0) kind (second_true (eqb (length bs) n) (eqb (byte_at bs 0) kind) e)

-- ---- labels and ranges

pub label_form_fits : (bs : List ℕ) → label_form 1 line_words bs ≡ true → Fits (1 + label_size line_words) bs
unfolding label_form
label_form_fits bs e = let n = form_length bs (1 + label_size line_words) 1 e in (omega arith, omega arith)

pub range_form_fits : (bs : List ℕ) → range_form 2 line_words bs ≡ true → Fits (1 + range_size line_words) bs
unfolding range_form
range_form_fits bs e = let n = form_length bs (1 + range_size line_words) 2 e in (omega arith, omega arith)

-- ---- tuples

-- a tuple's bytes behind the kind
abbrev pub tuple_bytes : ℕ → Tuple → List ℕ
tuple_bytes w t = presence_of t ∷ regions_bytes w t regions

pub tuple_form_parts : (kind w : ℕ) (bs : List ℕ) → tuple_form kind w bs ≡ true
    → (byte_at bs 1 < 8) × (length bs ≡ 1 + tuple_size w (byte_at bs 1)) × (byte_at bs 0 ≡ kind)
unfolding tuple_form
tuple_form_parts kind w bs e =
    let n = present_below (byte_at bs 1) regions * range_size w + 2 in
    let f = second_true (ltb (byte_at bs 1) 8) (body_form bs n kind) e in
    (ltb-true (byte_at bs 1) 8 (first_true (ltb (byte_at bs 1) 8) (body_form bs n kind) e), omega (arith, form_length bs n kind f), form_kind bs n kind f)

pub tuple_form_fits : (bs : List ℕ) → tuple_form 3 line_words bs ≡ true → Fits (longest_body line_words) bs
tuple_form_fits bs e =
    let n = (tuple_form_parts 3 line_words bs e).1 in
    let m = below_most (byte_at bs 1) regions in
    (omega arith, omega arith)

-- ---- alias entries

pub record EntryForm (kind w : ℕ) (bs : List ℕ) : Type 0 where
  pub name : (layout_of w bs 1).name.length ≤ max_name
  pub abbreviation : (layout_of w bs 1).abbreviation.length ≤ max_abbreviation
  pub size : length bs ≡ past (layout_of w bs 1).abbreviation
  pub kind_is : byte_at bs 0 ≡ kind
  pub low : 1 ≤ (layout_of w bs 1).class
  pub high : (layout_of w bs 1).class ≤ 3

pub entry_form_parts : (kind w : ℕ) (bs : List ℕ) → entry_form kind w bs ≡ true → EntryForm kind w bs
unfolding entry_form
entry_form_parts kind w bs e =
    let p = layout_of w bs 1 in
    let n = leb p.name.length max_name in
    let a = leb p.abbreviation.length max_abbreviation in
    let f = body_form bs (past p.abbreviation) kind in
    let l = leb 1 p.class in
    let h = leb p.class 3 in
    let t = three_true n a (f && l && h) e in
    let u = three_true f l h t.2 in
    record {
      name = leb-true p.name.length max_name t.0;
      abbreviation = leb-true p.abbreviation.length max_abbreviation t.1;
      size = form_length bs (past p.abbreviation) kind u.0;
      kind_is = form_kind bs (past p.abbreviation) kind u.0;
      low = leb-true 1 p.class u.1;
      high = leb-true p.class 3 u.2;
    }

-- a value has at most the bytes of a label
pub value_most : (w class : ℕ) → value_size w class ≤ label_size w
unfolding value_size
value_most w class = go (eqb class 3)
  where
    go : (p : Bool) → cond p (label_size w) 1 ≤ label_size w
    go true = omega arith
    go false = omega arith

-- of any kind, and with sets of any number of words
pub entry_form_within : (kind w : ℕ) (bs : List ℕ) → entry_form kind w bs ≡ true → Fits (1 + entry_size w) bs
unfolding layout_of
entry_form_within kind w bs e =
    let f = entry_form_parts kind w bs e in
    let v = value_most w (byte_at bs 1) in
    let name = f.name in
    let abbreviation = f.abbreviation in
    let size = f.size in
    (omega arith, omega arith)

pub entry_form_fits : (bs : List ℕ) → entry_form 4 line_words bs ≡ true → Fits (1 + entry_size line_words) bs
entry_form_fits bs e = entry_form_within 4 line_words bs e

-- Alias entries as bodies: where their parts stand, and that what is written reads back and what is read is written as it stands.
--
use mathlib.Core.Bool.{true, ◌&&◌}
use mathlib.Core.List.{List, [], ◌∷◌, ◌++◌}
use mathlib.Core.Logic.{◌↔◌}
use mathlib.Core.Path.{◌≡◌, refl, sym, ap, ap₂, ◌∙◌}
use Prim.Native.Nat.{ℕ, ◌+◌, ◌≤◌, ◌<◌}
use native.Mathlib.Nat.{add-zero}
use native.Mathlib.Omega.{arith}
use lib.Dec.{leb}
use lib.ListN.{length, take, length-append}
use borrow.Author.Tests.{le-leb}
use Rattle.common.specs.Answer.{granted}
use Rattle.label.specs.Words.{words}
use Rattle.label.specs.declared.Label.{Label}
use Rattle.common.proofs.BoolLaws.{both}
use Rattle.frame.specs.Frame.{read_body}
use Rattle.common.proofs.BytesLaws.{Bytes, bytes_append, bytes_take, cons_bytes}
use Rattle.label_codec.specs.Body.{byte_at}
use Rattle.alias_entry.specs.Entry.{TypedEntry, abbreviation_size, abbreviation_text, value_class, entry_bytes, entry_from, entry_of, layout_of, max_abbreviation, max_name, name_size, name_text, past, text_bytes, text_from, valid_of, value_bytes, value_size}
use Rattle.alias_entry.specs.Internal.Spans.{entry_size}
use Rattle.hexline.specs.Line.{contents_of, entry_body, entry_form, entry_in, body_form, line_of}
use Rattle.alias_entry.specs.declared.Entry.{Entry}
use Rattle.alias_entry.specs.declared.bytes.Layout.{Layout}
use Rattle.alias_entry.specs.declared.Value.{Value}
use Rattle.alias_entry.specs.declared.Value.TheVariants.{Hierarchy, Category, WholeLabel}
use Rattle.label_codec.proofs.BodyLaws.{Holds, Within, first_part, holds_first, holds_second, holds_self, one_part, part, parts_join}
use Rattle.alias_entry.proofs.EntryLaws.{name_fits, name_zero, text_back, text_forth, text_length, valid_parts, value_back, value_bytes_lem, value_forth, value_size_lem}
use Rattle.hexline.specs.Internal.Contents.{entry_form_parts, value_most}
use Rattle.hexline.proofs.LineLaws.{form_of, line_exact}

class_low : (v : Value) → 1 ≤ value_class v
class_low (Hierarchy h) = omega arith
class_low (Category c) = omega arith
class_low WholeLabel = omega arith

class_high : (v : Value) → value_class v ≤ 3
class_high (Hierarchy h) = omega arith
class_high (Category c) = omega arith
class_high WholeLabel = omega arith

-- a valid entry's name and abbreviation fit their arrays
record Fits (e : Entry) : Type 0 where
  named : e.name.length < length e.name.bytes
  short : e.abbreviation.length < length e.abbreviation.bytes

fits_of_lem : (e : Entry) → valid_of e ≡ true → Fits e
fits_of_lem e v =
    let x = valid_parts e v in
    record {
      named = name_fits e.name.bytes e.name.length x.name;
      short = name_fits e.abbreviation.bytes e.abbreviation.length x.abbreviation;
    }

-- the layout of a class and two lengths, in a body
layout : ℕ → ℕ → ℕ → ℕ → Layout
layout w c n a =
    record {
      class = c;
      name = record { at = 2 + value_size w c + 1; length = n };
      abbreviation = record { at = 2 + value_size w c + 1 + n + 1; length = a };
    }

layout_is : (w : ℕ) (bs : List ℕ) (c n a : ℕ) → byte_at bs 1 ≡ c → byte_at bs (2 + value_size w c) ≡ n → byte_at bs (2 + value_size w c + 1 + n) ≡ a
    → layout_of w bs 1 ≡ layout w c n a
unfolding layout_of layout
layout_is w bs c n a pc pn pa = rw (pc, pn, pa)

-- a body holds the parts of an entry
record Parts (kind w : ℕ) (bs : List ℕ) (e : Entry) : Type 0 where
  kind_is : byte_at bs 0 ≡ kind
  layout_of_lem : layout_of w bs 1 ≡ layout w (value_class e.value) e.name.length e.abbreviation.length
  value : Holds bs 2 (value_bytes w e.value e.label)
  name : Holds bs (2 + value_size w (value_class e.value) + 1) (take e.name.length e.name.bytes)
  abbreviation :
      Holds bs (2 + value_size w (value_class e.value) + 1 + e.name.length + 1) (take e.abbreviation.length e.abbreviation.bytes)
  size : length bs ≡ 2 + value_size w (value_class e.value) + 1 + e.name.length + 1 + e.abbreviation.length

-- a text at an index: its length, then its bytes
text_parts : (bs : List ℕ) (i n : ℕ) (xs : List ℕ) → Holds bs i (text_bytes xs n) → (byte_at bs i ≡ n) × Holds bs (i + 1) (take n xs)
text_parts bs i n xs h = (ap (byte_at bs) (sym (add-zero i)) ∙ h 0 (omega arith), holds_second bs i (i + 1) (n ∷ []) (take n xs) refl h)

body_parts : (kind w : ℕ) (e : Entry) → Fits e → Parts kind w (entry_body kind w e) e
unfolding entry_body entry_bytes
body_parts kind w e fits =
    let c = value_class e.value in
    let value = value_bytes w e.value e.label in
    let name = text_bytes e.name.bytes e.name.length in
    let abbreviation = text_bytes e.abbreviation.bytes e.abbreviation.length in
    let bs = kind ∷ entry_bytes w e in
    let all = holds_second bs 0 1 (kind ∷ []) (entry_bytes w e) refl (holds_self bs) in
    let front = holds_first bs 1 (c ∷ value ++ name) abbreviation all in
    let first = holds_first bs 1 (c ∷ value) name front in
    let v = value_size_lem w e.value e.label in
    let n = text_length e.name.bytes e.name.length (omega (arith, fits.named)) in
    let a = text_length e.abbreviation.bytes e.abbreviation.length (omega (arith, fits.short)) in
    let l = length-append (c ∷ value) name in
    let m = length-append (c ∷ value ++ name) abbreviation in
    let i = 2 + value_size w c in
    let j = i + 1 + e.name.length in
    let name_at = text_parts bs i e.name.length e.name.bytes (holds_second bs 1 i (c ∷ value) name (omega arith) front) in
    let abbreviation_at = text_parts bs j e.abbreviation.length e.abbreviation.bytes (holds_second bs 1 j (c ∷ value ++ name) abbreviation (omega arith) all) in
    record {
      kind_is = refl;
      layout_of_lem = layout_is w bs c e.name.length e.abbreviation.length refl name_at.0 abbreviation_at.0;
      value = holds_second bs 1 2 (c ∷ []) value refl first;
      name = name_at.1;
      abbreviation = abbreviation_at.1;
      size = omega arith;
    }

pub entry_length : (kind w : ℕ) (e : Entry) → length e.name.bytes ≡ name_size → length e.abbreviation.bytes ≡ abbreviation_size → valid_of e ≡ true → length (entry_body kind w e) ≤ 1 + entry_size w
entry_length kind w e x y v =
    let f = fits_of_lem e v in
    let p = (body_parts kind w e f).size in
    let s = value_most w (value_class e.value) in
    let n = f.named in
    let a = f.short in
    omega arith

-- ---- what is written reads back

module _ (kind w : ℕ) (bs : List ℕ) (e : Entry) (ty : TypedEntry e) (v : valid_of e ≡ true) (at : Parts kind w bs e) where
  entry_formed : entry_form kind w bs ≡ true
  unfolding entry_form layout
  entry_formed =
      let x = valid_parts e v in
      let fits = fits_of_lem e v in
      let n = ty.name_has_size in
      let a = ty.abbreviation_has_size in
      let c = value_class e.value in
      ap
      (λ (p : Layout). leb p.name.length max_name && leb p.abbreviation.length max_abbreviation
      && (body_form bs (past p.abbreviation) kind && leb 1 p.class && leb p.class 3))
      at.layout_of_lem
      ∙ both (both (le-leb e.name.length max_name (omega arith)) (le-leb e.abbreviation.length max_abbreviation (omega arith)))
      (both (both (form_of bs (2 + value_size w c + 1 + e.name.length + 1 + e.abbreviation.length) kind at.size at.kind_is) (le-leb 1 c (class_low e.value))) (le-leb c 3 (class_high e.value)))

  entry_back : Within w e.label → entry_in w bs ≡ e
  unfolding entry_from layout
  entry_back within =
      let x = valid_parts e v in
      let c = value_class e.value in
      let i = 2 + value_size w c + 1 in
      let j = i + e.name.length + 1 in
      let fits = fits_of_lem e v in
      let n = ty.name_has_size in
      let a = ty.abbreviation_has_size in
      let val = value_back w bs 2 e.value e.label ty.label within x.value at.value in
      let name = text_back name_size bs i e.name.length e.name.bytes n (omega arith) at.name (name_zero e.name.bytes e.name.length x.name) in
      let abbreviation = text_back abbreviation_size bs j e.abbreviation.length e.abbreviation.bytes a (omega arith) at.abbreviation (name_zero e.abbreviation.bytes e.abbreviation.length x.abbreviation) in
      ap (entry_from w bs 2) at.layout_of_lem
      ∙ ap₂ (λ (y : Value) (l : Label). entry_of y l (name_text (text_from name_size bs i e.name.length) e.name.length) (abbreviation_text (text_from abbreviation_size bs j e.abbreviation.length) e.abbreviation.length)) val.0 val.1
      ∙ ap₂ (λ (xs ys : List ℕ). entry_of e.value e.label (name_text xs e.name.length) (abbreviation_text ys e.abbreviation.length)) name abbreviation

entry_bytes_lem : (kind w : ℕ) (e : Entry) → kind < 256 → TypedEntry e → valid_of e ≡ true → Bytes (entry_body kind w e)
unfolding entry_body entry_bytes
entry_bytes_lem kind w e k ty v =
    let x = valid_parts e v in
    let fits = fits_of_lem e v in
    let n = ty.name_has_size in
    let a = ty.abbreviation_has_size in
    let h = class_high e.value in
    let value = value_bytes w e.value e.label in
    let name = text_bytes e.name.bytes e.name.length in
    let abbreviation = text_bytes e.abbreviation.bytes e.abbreviation.length in
    cons_bytes kind (entry_bytes w e) k
    (bytes_append (value_class e.value ∷ value ++ name) abbreviation
    (bytes_append (value_class e.value ∷ value) name (cons_bytes (value_class e.value) value (omega arith) (value_bytes_lem w e.value e.label ty.label x.value))
    (cons_bytes e.name.length (take e.name.length e.name.bytes) (omega arith) (bytes_take e.name.length e.name.bytes ty.name_byte)))
    (cons_bytes e.abbreviation.length (take e.abbreviation.length e.abbreviation.bytes) (omega arith)
    (bytes_take e.abbreviation.length e.abbreviation.bytes ty.abbreviation_byte)))

-- ---- what is read is written as it stands

entry_forth : (kind w : ℕ) (bs : List ℕ) → w ≤ words → Bytes bs → entry_form kind w bs ≡ true → bs ≡ entry_body kind w (entry_in w bs)
unfolding entry_body entry_bytes entry_from layout_of
entry_forth kind w bs fits small f =
    let p = entry_form_parts kind w bs f in
    let c = byte_at bs 1 in
    let vs = value_size w c in
    let i = 2 + vs in
    let n = byte_at bs i in
    let j = i + 1 + n in
    let a = byte_at bs j in
    let size = p.size in
    let val = value_forth w bs c 2 small fits p.low p.high (omega arith) in
    let name = text_forth name_size bs i (omega (arith, p.name)) (omega arith) in
    let abbreviation = text_forth abbreviation_size bs j (omega (arith, p.abbreviation)) (omega arith) in
    let class_part : c ∷ part 2 vs bs ≡ part 1 (1 + vs) bs = ap (λ (xs : List ℕ). xs ++ part 2 vs bs) (sym (one_part bs 1 (omega arith))) ∙ parts_join 1 1 vs bs in
    let i_is : i ≡ 1 + (1 + vs) = omega arith in
    let j_is : j ≡ 1 + (1 + vs + (1 + n)) = omega arith in
    let upto_name : part 1 (1 + vs) bs ++ part i (1 + n) bs ≡ part 1 (1 + vs + (1 + n)) bs = ap (λ (k : ℕ). part 1 (1 + vs) bs ++ part k (1 + n) bs) i_is ∙ parts_join 1 (1 + vs) (1 + n) bs in
    let whole : part 1 (1 + vs + (1 + n)) bs ++ part j (1 + a) bs ≡ part 1 (1 + vs + (1 + n) + (1 + a)) bs =
    ap (λ (k : ℕ). part 1 (1 + vs + (1 + n)) bs ++ part k (1 + a) bs) j_is ∙ parts_join 1 (1 + vs + (1 + n)) (1 + a) bs in
    first_part (1 + vs + (1 + n) + (1 + a)) bs (omega arith) ∙ ap₂ (λ (b : ℕ) (xs : List ℕ). b ∷ xs) p.kind_is (sym whole)
    ∙ ap₂ (λ (xs ys : List ℕ). kind ∷ xs ++ ys) (sym upto_name) (sym abbreviation)
    ∙ ap₂ (λ (xs ys : List ℕ). kind ∷ (xs ++ ys ++ text_bytes (text_from abbreviation_size bs (j + 1) a) a)) (sym class_part) (sym name)
    ∙ ap₂ (λ (b : ℕ) (xs : List ℕ). kind ∷ (b ∷ xs ++ text_bytes (text_from name_size bs (i + 1) n) n ++ text_bytes (text_from abbreviation_size bs (j + 1) a) a)) (sym val.0) (sym val.1)

pub entry_exact : (kind w : ℕ) → kind < 256 → w ≤ words → (e : Entry) → TypedEntry e → Within w e.label → (line : List ℕ)
    → (line_of (valid_of e) (entry_body kind w e) ≡ granted line) ↔ (read_body (contents_of (entry_form kind w) (entry_in w) valid_of) line ≡ granted e)
entry_exact kind w k fits e ty within =
    line_exact (entry_form kind w) (entry_in w) valid_of (entry_body kind w) e (entry_bytes_lem kind w e k ty)
    (λ v. entry_formed kind w (entry_body kind w e) e ty v (parts v)) (λ v. entry_back kind w (entry_body kind w e) e ty v (parts v) within)
    (λ bs. entry_forth kind w bs fits)
  where
    parts : valid_of e ≡ true → Parts kind w (entry_body kind w e) e
    parts v = body_parts kind w e (fits_of_lem e v)

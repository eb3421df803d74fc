-- The two laws of each kind, as one: the writer makes a line of some contents exactly if the reader gives these contents for that line.
-- So what is written reads back, and an accepted line is, byte for byte, the one that the writer makes. Each is proved over the kind's
-- number and the words that a set has in it, for contents whose categories stand in these, and then stated for kinds 01 to 04, where they
-- all do.
use mathlib.Core.Bool.{true}
use mathlib.Core.List.{List, [], ◌∷◌, ◌++◌}
use mathlib.Core.Logic.{◌↔◌}
use mathlib.Core.Path.{◌≡◌, refl, sym, ap, ap₂, ◌∙◌}
use Prim.Native.Nat.{ℕ, ◌+◌, ◌*◌, ◌≤◌, ◌<◌}
use native.Mathlib.Omega.{arith}
use lib.ListN.{length, get_or-eq_default}
use borrow.Author.Tests.{lt-ltb}
use Rattle.common.specs.Answer.{granted}
use Rattle.label.specs.Label
use Rattle.label.specs.Region.{regions}
use Rattle.label.specs.Words.{words}
use Rattle.label.specs.declared.Label.{Label}
use Rattle.common.proofs.BoolLaws.{both}
use Rattle.range.specs.Range
use Rattle.range.specs.Tuple
use Rattle.range.specs.declared.Range.{Range}
use Rattle.range.specs.declared.tuple.Tuple.{Tuple}
use Rattle.frame.specs.Frame.{read_body}
use Rattle.common.proofs.BytesLaws.{Bytes, cons_bytes}
use Rattle.label_codec.specs.Body.{byte_at, label_bytes, label_size, line_words, range_bytes, range_size}
use Rattle.alias_entry.specs.Entry
use Rattle.alias_entry.specs.Entry.{TypedEntry}
use Rattle.hexline.specs.Line.{contents_of, entry_body, entry_line_of, body_form, label_body, label_form, label_in_body, label_line_of, line_of, range_body, range_form, range_in, range_line_of, read_entry_line, read_label_line, read_range_line, read_tuple_line, tuple_body, tuple_form, tuple_in, tuple_line_of}
use Rattle.label_codec.specs.Tuples.{presence_of, present_below, regions_bytes}
use Rattle.alias_entry.specs.declared.Entry.{Entry}
use Rattle.label_codec.proofs.BodyLaws.{Within, first_part, holds_second, holds_self, label_back, label_bytes_lem, label_forth, label_length, one_part, part, parts_join, range_back, range_bytes_lem, range_forth, range_length}
use Rattle.hexline.proofs.EntryKindLaws.{entry_exact, entry_length}
use Rattle.hexline.specs.Internal.Contents.{form_kind, form_length, tuple_form_parts}
use Rattle.hexline.proofs.LineLaws.{form_of, line_exact, line_length, line_valid}
use Rattle.label_codec.proofs.TupleBytesLaws.{WithinTuple, presence_forth, presence_size, presence_small, regions_bytes_lem, regions_forth, regions_full, regions_size, tuple_back}

-- ---- bodies that begin with a kind

kind_part : (bs : List ℕ) (n kind : ℕ) → body_form bs (1 + n) kind ≡ true → bs ≡ kind ∷ part 1 n bs
kind_part bs n kind f = first_part n bs (form_length bs (1 + n) kind f) ∙ ap (λ (k : ℕ). k ∷ part 1 n bs) (form_kind bs (1 + n) kind f)

-- every category of a label of the code's type stands in as many words as it has
all_within : (l : Label) → Label.Typed l → Within words l
all_within l t j h = let n = t.length_is in get_or-eq_default l.categories 0 (omega arith)

-- ---- labels

module _ (kind w : ℕ) (k : kind < 256) (fits : w ≤ words) where
  label_exact : (l : Label) → Label.Typed l → Within w l → (line : List ℕ)
      → (line_of (Label.valid_of l) (label_body kind w l) ≡ granted line) ↔ (read_body (contents_of (label_form kind w) (label_in_body w) Label.valid_of) line ≡ granted l)
  unfolding label_body label_form
  label_exact l t within =
      line_exact (label_form kind w) (label_in_body w) Label.valid_of (label_body kind w) l
      (λ v. cons_bytes kind (label_bytes w l) k (label_bytes_lem w l v))
      (λ v. let n = label_length w l in form_of (kind ∷ label_bytes w l) (1 + label_size w) kind (omega arith) refl)
      (λ v. label_back w (kind ∷ label_bytes w l) 1 l (holds_second (kind ∷ label_bytes w l) 0 1 (kind ∷ []) (label_bytes w l) refl (holds_self (kind ∷ label_bytes w l))) t within)
      (λ bs small f. let n = form_length bs (1 + label_size w) kind f in
      kind_part bs (label_size w) kind f ∙ ap (λ (xs : List ℕ). kind ∷ xs) (sym (label_forth w bs 1 small fits (omega arith))))

  -- ---- ranges

  range_exact : (x : Range) → Range.TypedRange x → Within w x.low → Within w x.high → (line : List ℕ)
      → (line_of (Range.valid_of x) (range_body kind w x) ≡ granted line) ↔ (read_body (contents_of (range_form kind w) (range_in w) Range.valid_of) line ≡ granted x)
  unfolding range_body range_form
  range_exact x t low high =
      line_exact (range_form kind w) (range_in w) Range.valid_of (range_body kind w) x
      (λ v. cons_bytes kind (range_bytes w x) k (range_bytes_lem w x v))
      (λ v. let n = range_length w x in form_of (kind ∷ range_bytes w x) (1 + range_size w) kind (omega arith) refl)
      (λ v. range_back w (kind ∷ range_bytes w x) 1 x (holds_second (kind ∷ range_bytes w x) 0 1 (kind ∷ []) (range_bytes w x) refl (holds_self (kind ∷ range_bytes w x))) t low high)
      (λ bs small f. let n = form_length bs (1 + range_size w) kind f in
      kind_part bs (range_size w) kind f ∙ ap (λ (xs : List ℕ). kind ∷ xs) (sym (range_forth w bs 1 small fits (omega arith))))

  -- ---- tuples

  tuple_forth : (bs : List ℕ) → Bytes bs → tuple_form kind w bs ≡ true → bs ≡ tuple_body kind w (tuple_in w bs)
  unfolding tuple_body
  tuple_forth bs small f =
      let p = byte_at bs 1 in
      let n = present_below p regions * range_size w in
      let t = tuple_form_parts kind w bs f in
      let e = t.1 in
      let second : part 1 (1 + n) bs ≡ p ∷ part 2 n bs = sym (parts_join 1 1 n bs) ∙ ap (λ (xs : List ℕ). xs ++ part 2 n bs) (one_part bs 1 (omega arith)) in
      first_part (1 + n) bs (omega arith) ∙ ap₂ (λ (b : ℕ) (xs : List ℕ). b ∷ xs) t.2 second
      ∙ ap₂ (λ (b : ℕ) (xs : List ℕ). kind ∷ b ∷ xs) (sym (presence_forth w bs p 2 t.0)) (sym (regions_forth w bs p 2 small fits (omega arith) regions (omega arith)))

  tuple_exact : (t : Tuple) → Tuple.TypedTuple t → WithinTuple w t → (line : List ℕ)
      → (line_of (Tuple.valid_of t) (tuple_body kind w t) ≡ granted line) ↔ (read_body (contents_of (tuple_form kind w) (tuple_in w) Tuple.valid_of) line ≡ granted t)
  unfolding tuple_body tuple_form
  tuple_exact t ty within =
      let body = kind ∷ presence_of t ∷ regions_bytes w t regions in
      line_exact (tuple_form kind w) (tuple_in w) Tuple.valid_of (tuple_body kind w) t
      (λ v. let p = presence_small t in
      cons_bytes kind (presence_of t ∷ regions_bytes w t regions) k (cons_bytes (presence_of t) (regions_bytes w t regions) (omega arith) (regions_bytes_lem w t v regions (omega arith))))
      (λ v. let n = presence_size w t in
      both (lt-ltb (presence_of t) 8 (presence_small t)) (form_of body (present_below (presence_of t) regions * range_size w + 2) kind (omega arith) refl))
      (λ v. tuple_back w t body 2 ty within v (holds_second body 0 2 (kind ∷ presence_of t ∷ []) (regions_bytes w t regions) refl (holds_self body)))
      tuple_forth

-- ---- kinds 01 to 04

-- a label's line
pub label_line : (l : Label) → Label.Typed l → (line : List ℕ) → (label_line_of l ≡ granted line) ↔ (read_label_line line ≡ granted l)
label_line l t = label_exact 1 line_words (omega arith) (omega arith) l t (all_within l t)

-- a range's line
pub range_line : (x : Range) → Range.TypedRange x → (line : List ℕ) → (range_line_of x ≡ granted line) ↔ (read_range_line line ≡ granted x)
range_line x t = range_exact 2 line_words (omega arith) (omega arith) x t (all_within x.low t.low) (all_within x.high t.high)

-- a tuple's line
pub tuple_line : (t : Tuple) → Tuple.TypedTuple t → (line : List ℕ) → (tuple_line_of t ≡ granted line) ↔ (read_tuple_line line ≡ granted t)
tuple_line t ty =
    tuple_exact 3 line_words (omega arith) (omega arith) t ty
    (λ r l. (all_within (Tuple.region_range_at t r).range.low (ty.range r l).low, all_within (Tuple.region_range_at t r).range.high (ty.range r l).high))

-- an alias entry's line
pub entry_line : (e : Entry) → TypedEntry e → (line : List ℕ) → (entry_line_of e ≡ granted line) ↔ (read_entry_line line ≡ granted e)
entry_line e t = entry_exact 4 line_words (omega arith) (omega arith) e t (all_within e.label t.label)

-- ---- how long lines are, LF included: none is longer than a full tuple's, 402 digits and LF

pub label_line_length : (l : Label) (line : List ℕ) → label_line_of l ≡ granted line → length line ≡ 71
unfolding label_body
label_line_length l line e =
    let n = label_length line_words l in
    line_length (Label.valid_of l) (label_body 1 line_words l) line e ∙ omega arith

pub range_line_length : (x : Range) (line : List ℕ) → range_line_of x ≡ granted line → length line ≡ 137
unfolding range_body
range_line_length x line e =
    let n = range_length line_words x in
    line_length (Range.valid_of x) (range_body 2 line_words x) line e ∙ omega arith

pub tuple_line_length : (t : Tuple) (line : List ℕ) → tuple_line_of t ≡ granted line → length line ≤ 403
unfolding tuple_body
tuple_line_length t line e =
    let n = regions_size line_words t regions in
    let m = line_length (Tuple.valid_of t) (tuple_body 3 line_words t) line e in
    omega arith

pub full_tuple_length : (t : Tuple) (line : List ℕ) → ((r : ℕ) → r < regions → Tuple.is_there (Tuple.region_range_at t r) ≡ true) → tuple_line_of t ≡ granted line → length line ≡ 403
unfolding tuple_body
full_tuple_length t line h e =
    let n = regions_full line_words t regions h in
    line_length (Tuple.valid_of t) (tuple_body 3 line_words t) line e ∙ omega arith

pub entry_line_length : (e : Entry) → TypedEntry e → (line : List ℕ) → entry_line_of e ≡ granted line → length line ≤ 169
entry_line_length e ty line h =
    let m = line_length (Entry.valid_of e) (entry_body 4 line_words e) line h in
    let n = entry_length 4 line_words e ty.name_has_size ty.abbreviation_has_size (line_valid (Entry.valid_of e) (entry_body 4 line_words e) line h) in
    omega arith

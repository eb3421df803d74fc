-- Labels and ranges that are written by the entries of a good table read back, and a range whose high end is not shown is refused.
use mathlib.Core.Bool.{Bool, true, false, cond, ◌&&◌}
use mathlib.Core.List.{List, [], ◌∷◌, ◌++◌, append_assoc}
use mathlib.Core.Path.{◌≡◌, refl, sym, ap, ◌∙◌}
use Prim.Native.Nat.{ℕ}
use native.Mathlib.Omega.{arith}
use lib.ListN.{drop}
use lib.Seq.{drop-append_seam, take-append_seam}
use Rattle.common.specs.Answer.{Answer, and_then, granted, require}
use Rattle.label.specs.Caller.{caller_valid, sees_of}
use Rattle.label.specs.Label
use Rattle.label.specs.Words.{members_of}
use Rattle.label.specs.declared.Label.{Label}
use Rattle.label.specs.declared.caller.Caller.{Caller}
use Rattle.common.proofs.AnswerLaws.{grant_passed, grant_told, grants_same}
use Rattle.common.proofs.BoolLaws.{first_true, not_so, second_true}
use Rattle.range.specs.Range
use Rattle.range.specs.declared.Range.{Range}
use Rattle.range.proofs.RangeLaws.{valid_parts}
use Rattle.octets.specs.Bytes.{blank, same_bytes}
use Rattle.octets.proofs.ByteLaws.{Without, index_behind, same_is, same_self, without_append, without_cons}
use Rattle.alias_entry.specs.Entry.{is_letter, is_name_byte}
use Rattle.alias_entry.specs.declared.Entry.{Entry}
use Rattle.alias_entry.specs.declared.Value.TheVariants.{Hierarchy, Category, WholeLabel}
use Rattle.alias.proofs.TableLaws.{Good}
use Rattle.text.specs.Read.{ends_of, high_of, label_seen, plain, range_from, read_label_text, read_range_text}
use Rattle.text.specs.Write.{Shown, all_named, categories_named, categories_text, colon, comma, definition_named, definition_text, hidden_high, high_marker, label_text, low_marker, low_text, name_for, named, named_in, shown, text_in, whole_text, write_label_of, write_range_of}
use Rattle.text.specs.declared.Form.{Form}
use Rattle.text.specs.declared.Form.TheVariants.{Definition, Alias}
use Rattle.text.specs.declared.Style.{Style}
use Rattle.text.specs.declared.Variant.{Variant}
use Rattle.text.proofs.NameLaws.{name_without}
use Rattle.text.proofs.RoundLaws.{label_back}

-- ---- bytes that do not stand in the text of a label, and the ends of a range in its text

regroup : (a b c d : List ℕ) → ((a ++ b) ++ c) ++ d ≡ a ++ (b ++ (c ++ d))
regroup a b c d = simp append_assoc

module _ (es : List Entry) (good : Good es) where
  module _ (b : ℕ) (plainly : is_name_byte b ≡ false) (v : Variant) where
    categories_without : (mark : ℕ) (cs : List ℕ) → (mark ≡ b → ⊥) → (comma ≡ b → ⊥) → categories_named es cs ≡ true → Without b (categories_text es v mark cs)
    unfolding categories_text categories_named
    categories_without mark [] h g e = λ k l. absurd (omega arith)
    categories_without mark (c ∷ cs) h g e =
        let n = named es (Category c) Label.zero_label in
        without_append b (mark ∷ name_for es v (Category c) Label.zero_label) (categories_text es v comma cs)
        (without_cons b mark (name_for es v (Category c) Label.zero_label) h (name_without es good b plainly (Category c) Label.zero_label v (first_true n (categories_named es cs) e)))
        (categories_without comma cs g g (second_true n (categories_named es cs) e))

    definition_without : (l : Label) → (colon ≡ b → ⊥) → (comma ≡ b → ⊥) → definition_named es l ≡ true → Without b (definition_text es v l)
    unfolding definition_named definition_text
    definition_without l h g e =
        let n = named es (Hierarchy l.hierarchy) Label.zero_label in
        let cs = members_of l.categories in
        without_append b (name_for es v (Hierarchy l.hierarchy) Label.zero_label) (categories_text es v colon cs)
        (name_without es good b plainly (Hierarchy l.hierarchy) Label.zero_label v (first_true n (categories_named es cs) e))
        (categories_without colon cs h g (second_true n (categories_named es cs) e))

    text_without : (form : Form) (l : Label) → (colon ≡ b → ⊥) → (comma ≡ b → ⊥) → named_in es form l ≡ true → Without b (text_in es form v l)
    unfolding named_in text_in
    text_without Definition l h g e = definition_without l h g e
    text_without Alias l h g e = go (named es WholeLabel l) refl e
      where
        go : (p : Bool) → named es WholeLabel l ≡ p → cond p true (definition_named es l) ≡ true → Without b (cond p (name_for es v WholeLabel l) (definition_text es v l))
        go true q f = name_without es good b plainly WholeLabel l v q
        go false q f = definition_without l h g f

  -- ---- labels

  seen_back : (s : Caller) (style : Style) (l : Label) → Label.Typed l → sees_of s l ≡ true → all_named es style l ≡ true → label_seen es s (label_text es style l) ≡ granted l
  unfolding label_seen
  seen_back s style l t e n =
      ap (λ (a : Answer Label). and_then a (λ (l : Label). require (sees_of s l) 22 (granted l))) (label_back es good style.variant style.form l t n) ∙ rw e

  pub label_reads : (s : Caller) (style : Style) (l : Label) (text : List ℕ) → Label.Typed l → write_label_of es s style l ≡ granted text → read_label_text es s text ≡ granted l
  unfolding write_label_of read_label_text
  label_reads s style l text t e =
      let p = grant_passed (Label.valid_of l && caller_valid s) 22 text _ (sym e) in
      let q = grant_passed (sees_of s l) 13 text _ p.1 in
      let r = grant_passed (all_named es style l) 2 text _ q.1 in
      let same : text ≡ label_text es style l = grants_same text (label_text es style l) r.1 in
      rw (second_true (Label.valid_of l) (caller_valid s) p.0, same) (seen_back s style l t q.0 r.0)

  -- ---- ranges

  -- the low end up to the blank, the marker, and what follows
  ends_at : (s : Caller) (low : Label) (text rest : List ℕ) → Without blank text → label_seen es s text ≡ granted low
      → ends_of es s (text ++ (high_marker ++ rest)) ≡ high_of es s low (high_marker ++ rest)
  unfolding ends_of
  ends_at s low text rest w e =
      rw (index_behind blank text (45 ∷ 72 ∷ 32 ∷ rest) w, take-append_seam text (high_marker ++ rest), drop-append_seam text (high_marker ++ rest), e)

  range_shown : (s : Caller) (low : Label) (text rest : List ℕ) → caller_valid s ≡ true → Without blank text → label_seen es s text ≡ granted low
      → read_range_text es s (low_marker ++ (text ++ (high_marker ++ rest))) ≡ high_of es s low (high_marker ++ rest)
  unfolding read_range_text
  range_shown s low text rest v w e = rw (v, same_self low_marker) (ends_at s low text rest w e)

  -- a high end that has no `?` is read
  high_shown : (s : Caller) (low : Label) (rest : List ℕ) → Without 63 rest → high_of es s low (high_marker ++ rest) ≡ range_from es s low rest
  unfolding high_of
  high_shown s low rest w = rw (not_so (same_bytes (high_marker ++ rest) hidden_high) other, same_self high_marker)
    where
      other : same_bytes (high_marker ++ rest) hidden_high ≡ true → ⊥
      other e = let r : rest ≡ 63 ∷ [] = ap (drop 4) (same_is (high_marker ++ rest) hidden_high e) in w 0 (rw r (omega arith)) (rw r refl)

  high_hidden : (s : Caller) (low : Label) → high_of es s low hidden_high ≡ plain
  unfolding high_of
  high_hidden s low = rw (same_self hidden_high)

  -- what a grant of a range's text tells
  record RangeGrant (s : Caller) (style : Style) (x : Range) (t : Shown) (high : Bool) : Type 0 where
    range : Range.valid_of x ≡ true
    subject : caller_valid s ≡ true
    low : sees_of s x.low ≡ true
    high_is : sees_of s x.high ≡ high
    text : granted t ≡ cond high (shown (all_named es style x.low && all_named es style x.high) 0 (whole_text es style x)) (shown (all_named es style x.low) 1 (low_text es style x))

  range_grant : (s : Caller) (style : Style) (x : Range) (t : Shown) → write_range_of es s style x ≡ granted t → RangeGrant s style x t (sees_of s x.high)
  unfolding write_range_of
  range_grant s style x t e =
      let p = grant_passed (Range.valid_of x && caller_valid s) 22 t _ (sym e) in
      let q = grant_passed (sees_of s x.low) 13 t _ p.1 in
      record {
        range = first_true (Range.valid_of x) (caller_valid s) p.0;
        subject = second_true (Range.valid_of x) (caller_valid s) p.0;
        low = q.0;
        high_is = refl;
        text = q.1;
      }

  -- a range with both ends
  whole_back : (s : Caller) (style : Style) (x : Range) (t : Shown) → Range.TypedRange x → RangeGrant s style x t true → read_range_text es s t.text ≡ granted x
  unfolding whole_text range_from is_name_byte is_letter
  whole_back s style x t ty g =
      let a = all_named es style x.low in
      let b = all_named es style x.high in
      let p = grant_told (a && b) 2 t _ g.text in
      let na = first_true a b p.0 in
      let nb = second_true a b p.0 in
      let low = seen_back s style x.low ty.low g.low na in
      let high = seen_back s style x.high ty.high g.high_is nb in
      let w = text_without blank refl style.variant style.form x.low (λ f. omega arith) (λ f. omega arith) na in
      ap (λ (t : Shown). read_range_text es s t.text) p.1
      ∙ ap (read_range_text es s) (regroup low_marker (label_text es style x.low) high_marker (label_text es style x.high))
      ∙ range_shown s x.low (label_text es style x.low) (label_text es style x.high) g.subject w low
      ∙ high_shown s x.low (label_text es style x.high) (text_without 63 refl style.variant style.form x.high (λ f. omega arith) (λ f. omega arith) nb)
      ∙ ap (λ (a : Answer Label). and_then a (λ (high : Label). require (Label.dominates_of high x.low) 22 (granted (Range.range_of x.low high)))) high
      ∙ rw (valid_parts x g.range).order

  -- a range whose high end is not shown
  hidden_refused : (s : Caller) (style : Style) (x : Range) (t : Shown) → Range.TypedRange x → RangeGrant s style x t false → read_range_text es s t.text ≡ plain
  unfolding low_text is_name_byte is_letter
  hidden_refused s style x t ty g =
      let a = all_named es style x.low in
      let p = grant_told a 2 t _ g.text in
      let low = seen_back s style x.low ty.low g.low p.0 in
      let w = text_without blank refl style.variant style.form x.low (λ f. omega arith) (λ f. omega arith) p.0 in
      ap (λ (t : Shown). read_range_text es s t.text) p.1
      ∙ ap (read_range_text es s) (append_assoc low_marker (label_text es style x.low) hidden_high)
      ∙ range_shown s x.low (label_text es style x.low) (63 ∷ []) g.subject w low
      ∙ high_hidden s x.low

  pub range_reads : (s : Caller) (style : Style) (x : Range) (t : Shown) → Range.TypedRange x → write_range_of es s style x ≡ granted t → t.status ≡ 0
      → read_range_text es s t.text ≡ granted x
  range_reads s style x t ty e z = go (sees_of s x.high) (range_grant s style x t e)
    where
      go : (high : Bool) → RangeGrant s style x t high → read_range_text es s t.text ≡ granted x
      go true g = whole_back s style x t ty g
      go false g = let p = grant_told (all_named es style x.low) 2 t _ g.text in let q = ap (λ (t : Shown). t.status) p.1 in absurd (omega arith)

  pub range_refused : (s : Caller) (style : Style) (x : Range) (t : Shown) → Range.TypedRange x → write_range_of es s style x ≡ granted t → t.status ≡ 1
      → read_range_text es s t.text ≡ plain
  range_refused s style x t ty e z = go (sees_of s x.high) (range_grant s style x t e)
    where
      go : (high : Bool) → RangeGrant s style x t high → read_range_text es s t.text ≡ plain
      go true g =
          let p = grant_told (all_named es style x.low && all_named es style x.high) 2 t _ g.text in
          let q = ap (λ (t : Shown). t.status) p.1 in absurd (omega arith)
      go false g = hidden_refused s style x t ty g

-- Names that are written find the entries that they are written of, in a table whose entries are valid and in which no name stands twice.
--
use mathlib.Core.Bool.{Bool, true, false, cond, ◌&&◌, true≢false}
use mathlib.Core.List.{List}
use mathlib.Core.Logic.{⊎_elim}
use Rattle.std.specs.Prelude.{Option, None, Some, is_some}
use mathlib.Core.Path.{◌≡◌, refl, sym, ap, ◌∙◌}
use Prim.Native.Nat.{ℕ, ◌<◌}
use native.Mathlib.Omega.{arith}
use lib.Dec.{leb}
use lib.ListN.{get_or, length}
use borrow.Author.Tests.{eqb-true}
use Rattle.common.specs.Answer.{Answer, and_then, granted}
use Rattle.common.specs.Index.{first_from}
use Rattle.label.specs.Label
use Rattle.label.specs.declared.Label.{Label}
use Rattle.common.proofs.BoolLaws.{both, either, or_first, or_second, second_true}
use Rattle.label.proofs.LabelLaws.{equal_exact}
use Rattle.common.proofs.SearchLaws.{first_least, first_none, last_holds}
use Rattle.octets.specs.Bytes.{same_bytes}
use Rattle.octets.proofs.ByteLaws.{Without, same_is, same_self}
use Rattle.alias_entry.specs.Entry as entries
use Rattle.alias_entry.specs.Entry.{abbreviation_bytes, is_name_byte, name_bytes}
use Rattle.alias_entry.specs.declared.Entry.{Entry}
use Rattle.alias_entry.specs.declared.Value.{Value}
use Rattle.alias_entry.specs.declared.Value.TheVariants.{Hierarchy, Category, WholeLabel}
use Rattle.hexline.proofs.StandingLaws.{abbreviation_letters, name_letters}
use Rattle.alias.specs.Lines.{entry_at}
use Rattle.alias.specs.Lookup.{called_of, find_of, last_entry_for, same_value, stands_for}
use Rattle.alias.proofs.TableLaws.{Good, called_once}
use Rattle.text.specs.Read.{category_by, category_named, entry_named, found_entry, hierarchy_by, hierarchy_named, label_by, label_named, no_categories}
use Rattle.text.specs.Write.{name_for, name_or, named, written_name}
use Rattle.text.specs.declared.Variant.{Variant}
use Rattle.text.specs.declared.Variant.TheVariants.{Names, Abbreviations}

-- ---- what an entry that stands for a value holds

pub stands_hierarchy : (h : ℕ) (l m : Label) (v : Value) → same_value v m (Hierarchy h) l ≡ true → v ≡ Hierarchy h
unfolding same_value
stands_hierarchy h l m (Hierarchy g) e = ap Hierarchy (eqb-true g h e)
stands_hierarchy h l m (Category c) e = cc
stands_hierarchy h l m WholeLabel e = cc

pub stands_category : (c : ℕ) (l m : Label) (v : Value) → same_value v m (Category c) l ≡ true → v ≡ Category c
unfolding same_value
stands_category c l m (Hierarchy g) e = cc
stands_category c l m (Category d) e = ap Category (eqb-true d c e)
stands_category c l m WholeLabel e = cc

pub stands_label : (l m : Label) (v : Value) → same_value v m WholeLabel l ≡ true → (v ≡ WholeLabel) × (Label.equal_of m l ≡ true)
unfolding same_value
stands_label l m (Hierarchy g) e = cc
stands_label l m (Category d) e = cc
stands_label l m WholeLabel e = (refl, e)

-- ---- a name that is written is a name of its entry, and made of name bytes

written_called : (v : Variant) (e : Entry) → called_of e (written_name v e) ≡ true
unfolding called_of written_name
written_called Names e = or_first _ (same_self (name_bytes e))
written_called Abbreviations e = go (leb 1 (length (abbreviation_bytes e))) refl
  where
    go : (p : Bool) → leb 1 (length (abbreviation_bytes e)) ≡ p → called_of e (cond p (abbreviation_bytes e) (name_bytes e)) ≡ true
    go true h = or_second (same_bytes (name_bytes e) (abbreviation_bytes e)) (both h (same_self (abbreviation_bytes e)))
    go false h = or_first _ (same_self (name_bytes e))

-- a text that is a name of a valid entry has name bytes only
called_letters : (e : Entry) (text : List ℕ) → entries.valid_of e ≡ true → called_of e text ≡ true → (k : ℕ) → k < length text → is_name_byte (get_or text k 0) ≡ true
unfolding called_of
called_letters e text v c k l =
    ⊎_elim
    (λ h. let q = same_is (name_bytes e) text h in let n = ap length q in ap (λ (xs : List ℕ). is_name_byte (get_or xs k 0)) (sym q) ∙ name_letters e v k (omega arith))
    (λ h. let q = same_is (abbreviation_bytes e) text (second_true (leb 1 (length (abbreviation_bytes e))) (same_bytes (abbreviation_bytes e) text) h) in
    let n = ap length q in
    ap (λ (xs : List ℕ). is_name_byte (get_or xs k 0)) (sym q) ∙ abbreviation_letters e v k (omega arith))
    (either (same_bytes (name_bytes e) text) (leb 1 (length (abbreviation_bytes e)) && same_bytes (abbreviation_bytes e) text) c)

module _ (es : List Entry) (good : Good es) where
  -- ---- looking a name up

  find_called : (text : List ℕ) (k : ℕ) → k < length es → called_of (entry_at es k) text ≡ true → find_of es text ≡ Some k
  unfolding find_of
  find_called text k l c = go (first_from f 0 (length es)) refl
    where
      f : ℕ → Bool
      f j = called_of (entry_at es j) text

      go : (o : Option ℕ) → first_from f 0 (length es) ≡ o → first_from f 0 (length es) ≡ Some k
      go None e = absurd (true≢false (sym c ∙ first_none f 0 (length es) e k (omega arith) (omega arith)))
      go (Some j) e =
          let r = first_least f 0 (length es) j e in
          let b = r.1 in
          e ∙ ap Some (called_once es good text j k (omega arith) l r.0.there c)

  -- the last entry for a value
  record Last (value : Value) (l : Label) (v : Variant) : Type 0 where
    number : ℕ
    below : number < length es
    stands : same_value (entry_at es number).value (entry_at es number).label value l ≡ true
    text : name_for es v value l ≡ written_name v (entry_at es number)
    found : entry_named es (name_for es v value l) ≡ granted (entry_at es number)

  last_entry : (value : Value) (l : Label) (v : Variant) → named es value l ≡ true → Last value l v
  unfolding named name_for last_entry_for stands_for entry_named
  last_entry value l v e = go (last_entry_for es value l) refl e
    where
      go : (o : Option ℕ) → last_entry_for es value l ≡ o → is_some o ≡ true → Last value l v
      go None q h = cc
      go (Some k) q h =
          let r = last_holds (λ j. stands_for value l (entry_at es j)) (length es) k q in
          let t : name_for es v value l ≡ written_name v (entry_at es k) = ap (name_or v es) q in
          record {
            number = k;
            below = r.0;
            stands = r.1;
            text = t;
            found = ap (found_entry es) (ap (find_of es) t ∙ find_called (written_name v (entry_at es k)) k r.0 (written_called v (entry_at es k)));
          }

  -- ---- what is written of a value names it

  pub hierarchy_back : (h : ℕ) (l : Label) (v : Variant) → named es (Hierarchy h) l ≡ true → hierarchy_named es (name_for es v (Hierarchy h) l) ≡ granted h
  unfolding hierarchy_named
  hierarchy_back h l v e =
      let x = last_entry (Hierarchy h) l v e in
      ap (λ (a : Answer Entry). and_then a (λ (e : Entry). hierarchy_by e.value)) x.found
      ∙ ap hierarchy_by (stands_hierarchy h l (entry_at es x.number).label (entry_at es x.number).value x.stands)

  pub single_back : (h : ℕ) (l : Label) (v : Variant) → named es (Hierarchy h) l ≡ true
      → label_named es (name_for es v (Hierarchy h) l) ≡ granted (Label.label_of h no_categories)
  unfolding label_named
  single_back h l v e =
      let x = last_entry (Hierarchy h) l v e in
      ap (λ (a : Answer Entry). and_then a (λ (e : Entry). label_by e.value e.label)) x.found
      ∙ ap (λ (y : Value). label_by y (entry_at es x.number).label) (stands_hierarchy h l (entry_at es x.number).label (entry_at es x.number).value x.stands)

  pub category_back : (c : ℕ) (l : Label) (v : Variant) → named es (Category c) l ≡ true → category_named es (name_for es v (Category c) l) ≡ granted c
  unfolding category_named
  category_back c l v e =
      let x = last_entry (Category c) l v e in
      ap (λ (a : Answer Entry). and_then a (λ (e : Entry). category_by e.value)) x.found
      ∙ ap category_by (stands_category c l (entry_at es x.number).label (entry_at es x.number).value x.stands)

  pub alias_back : (l : Label) (v : Variant) → Label.Typed l → named es WholeLabel l ≡ true → label_named es (name_for es v WholeLabel l) ≡ granted l
  unfolding label_named
  alias_back l v t e =
      let x = last_entry WholeLabel l v e in
      let m = (entry_at es x.number).label in
      let s = stands_label l m (entry_at es x.number).value x.stands in
      let n = (good.typed x.number x.below).label.length_is in
      let n2 = t.length_is in
      ap (λ (a : Answer Entry). and_then a (λ (e : Entry). label_by e.value e.label)) x.found
      ∙ ap (λ (y : Value). label_by y m) s.0 ∙ ap granted ((equal_exact m l (omega arith)).0 s.1)

  -- ---- no mark stands in a name

  pub name_without : (b : ℕ) → is_name_byte b ≡ false → (value : Value) (l : Label) (v : Variant) → named es value l ≡ true → Without b (name_for es v value l)
  name_without b n value l v e k h q =
      let x = last_entry value l v e in
      let t = x.text in
      let i : k < length (written_name v (entry_at es x.number)) = rw t at h in
      true≢false
      (sym (called_letters (entry_at es x.number) (written_name v (entry_at es x.number)) (good.valid x.number x.below) (written_called v (entry_at es x.number)) k i)
      ∙ ap (λ (xs : List ℕ). is_name_byte (get_or xs k 0)) (sym t) ∙ ap is_name_byte q ∙ n)

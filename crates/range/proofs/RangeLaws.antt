-- The laws of ranges.
use mathlib.Core.Bool.{Bool, true, false, ◌&&◌, true≢false}
use mathlib.Core.Logic.{◌↔◌}
use Rattle.std.specs.Prelude.{None}
use mathlib.Core.Path.{◌≡◌, refl, sym, ap₂, ◌∙◌, subst}
use Prim.Native.Nat.{ℕ}
use native.Mathlib.Omega.{arith}
use Rattle.common.specs.Answer.{granted, refused, require}
use Rattle.label.specs.Label
use Rattle.label.specs.Label.{Typed, dominates_of}
use Rattle.label.specs.declared.Label.{Label}
use Rattle.common.proofs.AnswerLaws.{passed, stopped}
use Rattle.common.proofs.BoolLaws.{both, first_true, second_true, swap_and, three_true}
use Rattle.label.proofs.LabelLaws.{dominates_parts, dominates_refl, dominates_trans, dominates_upper, hierarchy_valid, lower_dominates, lower_valid, upper_typed, upper_valid, valid_hierarchy}
use Rattle.range.specs.Range.{TypedRange, common_of, contains_of, meet_answer_of, meet_of, valid_of}
use Rattle.range.specs.declared.Range.{Range}

-- ---- a valid range, by its parts; it contains its ends

pub record Valid (x : Range) : Type 0 where
  pub low : Label.valid_of x.low ≡ true
  pub high : Label.valid_of x.high ≡ true
  pub order : dominates_of x.high x.low ≡ true

pub valid_parts : (x : Range) → valid_of x ≡ true → Valid x
unfolding valid_of
valid_parts x e =
    let t = three_true (Label.valid_of x.low) (Label.valid_of x.high) (dominates_of x.high x.low) e in
    record { low = t.0; high = t.1; order = t.2 }

pub parts_valid : (x : Range) → Valid x → valid_of x ≡ true
unfolding valid_of
parts_valid x v = both (both v.low v.high) v.order

pub record Contains (x : Range) (l : Label) : Type 0 where
  pub below : dominates_of x.high l ≡ true
  pub above : dominates_of l x.low ≡ true

pub contains_parts : (x : Range) (l : Label) → contains_of x l ≡ true → Contains x l
unfolding contains_of
contains_parts x l e =
    record { below = first_true _ _ e; above = second_true (dominates_of x.high l) _ e }

pub parts_contain : (x : Range) (l : Label) → Contains x l → contains_of x l ≡ true
unfolding contains_of
parts_contain x l c = both c.below c.above

pub contains_low : (x : Range) → valid_of x ≡ true → contains_of x x.low ≡ true
contains_low x e = parts_contain x x.low (record { below = (valid_parts x e).order; above = dominates_refl x.low })

pub contains_high : (x : Range) → valid_of x ≡ true → contains_of x x.high ≡ true
contains_high x e = parts_contain x x.high (record { below = dominates_refl x.high; above = (valid_parts x e).order })

-- a label in a valid range is valid
pub contains_valid : (x : Range) (l : Label) → valid_of x ≡ true → contains_of x l ≡ true → Label.valid_of l ≡ true
contains_valid x l v c =
    let d = (dominates_parts x.high l (contains_parts x l c).below).hierarchy in
    let h = valid_hierarchy x.high (valid_parts x v).high in
    hierarchy_valid l (omega arith)

-- ---- the meet holds exactly the common labels

pub meet_labels : (x y : Range) (l : Label) → contains_of (meet_of x y) l ≡ (contains_of x l && contains_of y l)
unfolding contains_of meet_of
meet_labels x y l =
    ap₂ ◌&&◌ (lower_dominates x.high y.high l) (dominates_upper x.low y.low l)
    ∙ swap_and (dominates_of x.high l) (dominates_of y.high l) (dominates_of l x.low) (dominates_of l y.low)

-- where the bounds are in order their low is a common label, and any common label shows that they are
pub common_low : (x y : Range) → common_of x y ≡ true → contains_of (meet_of x y) (meet_of x y).low ≡ true
unfolding common_of
common_low x y e = parts_contain (meet_of x y) (meet_of x y).low (record { below = e; above = dominates_refl (meet_of x y).low })

pub common_label : (x y : Range) (l : Label) → (contains_of x l && contains_of y l) ≡ true → common_of x y ≡ true
unfolding common_of
common_label x y l e =
    let c = contains_parts (meet_of x y) l (meet_labels x y l ∙ e) in
    dominates_trans (meet_of x y).high l (meet_of x y).low c.below c.above

pub meet_valid : (x y : Range) → valid_of x ≡ true → valid_of y ≡ true → common_of x y ≡ true → valid_of (meet_of x y) ≡ true
unfolding meet_of common_of
meet_valid x y e f g =
    let v = valid_parts x e in
    let w = valid_parts y f in
    parts_valid (meet_of x y) (record { low = upper_valid x.low y.low v.low w.low; high = lower_valid x.high y.high v.high w.high; order = g })

meet_low_typed : (x y : Range) → TypedRange x → TypedRange y → Typed (meet_of x y).low
unfolding meet_of
meet_low_typed x y s t = upper_typed x.low y.low s.low t.low

-- ---- what the meet answers

module _ (x y : Range) (e : valid_of x ≡ true) (f : valid_of y ≡ true) where
  tested : meet_answer_of x y ≡ require (common_of x y) 33 (granted (meet_of x y))
  tested = passed (valid_of x && valid_of y) 22 (require (common_of x y) 33 (granted (meet_of x y))) (both e f)

  -- a range that is granted is valid and contains exactly the labels that are in both
  pub record Meets (m : Range) : Type 0 where
    pub valid : valid_of m ≡ true
    pub labels : (l : Label) → contains_of m l ≡ (contains_of x l && contains_of y l)

  pub meet_granted : (m : Range) → meet_answer_of x y ≡ granted m → Meets m
  meet_granted m h = go (common_of x y) refl (sym tested ∙ h)
    where
      go : (p : Bool) → common_of x y ≡ p → require p 33 (granted (meet_of x y)) ≡ granted m → Meets m
      go true c a =
          let q : meet_of x y ≡ m = cc in
          subst Meets q (record { valid = meet_valid x y e f c; labels = meet_labels x y })
      go false c a = let z : ◌≡◌ {A = ℕ} 0 1 = cc in absurd (omega arith)

  -- it is refused exactly if no label is in both
  pub meet_refused : TypedRange x → TypedRange y
      → (meet_answer_of x y ≡ refused 33 None) ↔ ((l : Label) → Typed l → Label.valid_of l ≡ true → contains_of x l ≡ true → contains_of y l ≡ true → ⊥)
  meet_refused s t = (λ h. there (common_of x y) refl (sym tested ∙ h), λ h. back (common_of x y) refl h)
    where
      there : (p : Bool) → common_of x y ≡ p → require p 33 (granted (meet_of x y)) ≡ refused 33 None
          → (l : Label) → Typed l → Label.valid_of l ≡ true → contains_of x l ≡ true → contains_of y l ≡ true → ⊥
      there true c a l tl vl i j = let z : ◌≡◌ {A = ℕ} 0 1 = cc in omega arith
      there false c a l tl vl i j = let k : true ≡ false = sym (common_label x y l (both i j)) ∙ c in true≢false k

      back : (p : Bool) → common_of x y ≡ p
          → ((l : Label) → Typed l → Label.valid_of l ≡ true → contains_of x l ≡ true → contains_of y l ≡ true → ⊥) → meet_answer_of x y ≡ refused 33 None
      back true c h = absurd (h (meet_of x y).low (meet_low_typed x y s t) low_valid (first_true _ _ inside) (second_true (contains_of x (meet_of x y).low) _ inside))
        where
          inside : (contains_of x (meet_of x y).low && contains_of y (meet_of x y).low) ≡ true
          inside = sym (meet_labels x y (meet_of x y).low) ∙ common_low x y c

          low_valid : Label.valid_of (meet_of x y).low ≡ true
          low_valid = (valid_parts (meet_of x y) (meet_valid x y e f c)).low
      back false c h = tested ∙ stopped (common_of x y) 33 (granted (meet_of x y)) c

-- The laws of labels, with a set of any number of words.
use mathlib.Core.Bool.{Bool, true, ◌&&◌, ◌||◌}
use mathlib.Core.Logic.{◌↔◌}
use mathlib.Core.Path.{◌≡◌, refl, sym, ap, ap₂, ◌∙◌, subst}
use Prim.Native.Nat.{ℕ, ◌≤◌, ◌<◌, max, min}
use native.Mathlib.Nat.{le_refl}
use native.Mathlib.Omega.{arith}
use lib.Bits.{or_lt}
use lib.Dec.{eqb, leb, ltb}
use lib.ListN.{length}
use borrow.Author.Tests.{eqb-true, eq-eqb, leb-true, le-leb, ltb-true}
use Rattle.label.specs.Label.{Typed, dominates_of, equal_of, label_of, lower_bound_of, upper_bound_of, valid_of, with_category_of}
use Rattle.label.specs.Words.{categories, has, includes_of, same_of, single_of, union_of, word_at}
use Rattle.label.specs.declared.Label.{Label}
use Rattle.common.proofs.BoolLaws.{both, exactly_both, first_true, second_true, swap_and}
use Rattle.label.proofs.SingleLaws.{has_single, includes_single}
use Rattle.label.proofs.WordLaws.{has_union, includes_antisym, includes_intersection, includes_refl, includes_trans, same_equal, same_refl, union_at, union_includes, union_length}

-- ---- dominance, by its two parts

pub record Dominates (a b : Label) : Type 0 where
  pub hierarchy : b.hierarchy ≤ a.hierarchy
  pub categories : includes_of a.categories b.categories ≡ true

pub dominates_parts : (a b : Label) → dominates_of a b ≡ true → Dominates a b
unfolding dominates_of
dominates_parts a b e =
    let p : Bool = leb b.hierarchy a.hierarchy in
    let q : Bool = includes_of a.categories b.categories in
    record { hierarchy = leb-true b.hierarchy a.hierarchy (first_true p q e); categories = second_true p q e }

pub parts_dominate : (a b : Label) → Dominates a b → dominates_of a b ≡ true
unfolding dominates_of
parts_dominate a b d = both (le-leb b.hierarchy a.hierarchy d.hierarchy) d.categories

-- ---- dominance is a partial order

pub dominates_refl : (a : Label) → dominates_of a a ≡ true
dominates_refl a = parts_dominate a a (record { hierarchy = le_refl a.hierarchy; categories = includes_refl a.categories })

pub dominates_trans : (a b c : Label) → dominates_of a b ≡ true → dominates_of b c ≡ true → dominates_of a c ≡ true
dominates_trans a b c e f =
    let p = dominates_parts a b e in
    let q = dominates_parts b c f in
    parts_dominate a c (record { hierarchy = omega arith; categories = includes_trans a.categories b.categories c.categories p.categories q.categories })

-- of labels with as many words, as any two values of the code's type have
pub dominates_antisym : (a b : Label) → length a.categories ≡ length b.categories → dominates_of a b ≡ true → dominates_of b a ≡ true → a ≡ b
dominates_antisym a b l e f =
    let p = dominates_parts a b e in
    let q = dominates_parts b a f in
    let h : a.hierarchy ≡ b.hierarchy = omega arith in
    ap₂ label_of h (includes_antisym a.categories b.categories l p.categories q.categories)

-- ---- equality

pub equal_exact : (a b : Label) → length a.categories ≡ length b.categories → (equal_of a b ≡ true) ↔ (a ≡ b)
unfolding equal_of
equal_exact a b l = (λ e. ap₂ label_of (eqb-true a.hierarchy b.hierarchy (first_true _ _ e)) (same_equal a.categories b.categories l (second_true (eqb a.hierarchy b.hierarchy) _ e)), back)
  where
    back : a ≡ b → equal_of a b ≡ true
    back e = subst (λ (x : Label). equal_of a x ≡ true) e (both (eq-eqb a.hierarchy a.hierarchy refl) (same_refl a.categories))

-- of labels with any number of words
pub equal_dominates : (a b : Label) → equal_of a b ≡ true → dominates_of a b ≡ true
unfolding equal_of same_of
equal_dominates a b e =
    let h : a.hierarchy ≡ b.hierarchy = eqb-true a.hierarchy b.hierarchy (first_true _ _ e) in
    parts_dominate a b (record {
      hierarchy = omega (arith, h);
      categories = first_true (includes_of a.categories b.categories) _ (second_true (eqb a.hierarchy b.hierarchy) _ e);
    })

-- ---- the bounds' hierarchies

pub upper_hierarchy : (a b : Label) → (upper_bound_of a b).hierarchy ≡ max a.hierarchy b.hierarchy
unfolding upper_bound_of
upper_hierarchy a b = refl

pub lower_hierarchy : (a b : Label) → (lower_bound_of a b).hierarchy ≡ min a.hierarchy b.hierarchy
unfolding lower_bound_of
lower_hierarchy a b = refl

-- ---- the upper bound is the least that dominates both, the lower bound the greatest that both dominate

max_leb : (a b c : ℕ) → leb (max a b) c ≡ (leb a c && leb b c)
max_leb a b c =
    exactly_both (leb (max a b) c) (leb a c) (leb b c) (λ e. le-leb a c (omega (arith, leb-true (max a b) c e)))
    (λ e. le-leb b c (omega (arith, leb-true (max a b) c e))) (λ e f. le-leb (max a b) c (omega (arith, leb-true a c e, leb-true b c f)))

leb_min : (a b c : ℕ) → leb c (min a b) ≡ (leb c a && leb c b)
leb_min a b c =
    exactly_both (leb c (min a b)) (leb c a) (leb c b) (λ e. le-leb c a (omega (arith, leb-true c (min a b) e)))
    (λ e. le-leb c b (omega (arith, leb-true c (min a b) e))) (λ e f. le-leb c (min a b) (omega (arith, leb-true c a e, leb-true c b f)))

pub dominates_upper : (a b c : Label) → dominates_of c (upper_bound_of a b) ≡ (dominates_of c a && dominates_of c b)
unfolding dominates_of upper_bound_of
dominates_upper a b c =
    ap₂ ◌&&◌ (max_leb a.hierarchy b.hierarchy c.hierarchy) (union_includes a.categories b.categories c.categories)
    ∙ swap_and (leb a.hierarchy c.hierarchy) (leb b.hierarchy c.hierarchy) (includes_of c.categories a.categories) (includes_of c.categories b.categories)

pub lower_dominates : (a b c : Label) → dominates_of (lower_bound_of a b) c ≡ (dominates_of a c && dominates_of b c)
unfolding dominates_of lower_bound_of
lower_dominates a b c =
    ap₂ ◌&&◌ (leb_min a.hierarchy b.hierarchy c.hierarchy) (includes_intersection a.categories b.categories c.categories)
    ∙ swap_and (leb c.hierarchy a.hierarchy) (leb c.hierarchy b.hierarchy) (includes_of a.categories c.categories) (includes_of b.categories c.categories)

pub record LeastUpper (a b u : Label) : Type 0 where
  pub left : dominates_of u a ≡ true
  pub right : dominates_of u b ≡ true
  pub least : (c : Label) → dominates_of c a ≡ true → dominates_of c b ≡ true → dominates_of c u ≡ true

pub upper_least : (a b : Label) → LeastUpper a b (upper_bound_of a b)
upper_least a b =
    let u : Label = upper_bound_of a b in
    let e : (dominates_of u a && dominates_of u b) ≡ true = sym (dominates_upper a b u) ∙ dominates_refl u in
    record { left = first_true _ _ e; right = second_true (dominates_of u a) _ e; least = λ c p q. dominates_upper a b c ∙ both p q }

pub record GreatestLower (a b l : Label) : Type 0 where
  pub left : dominates_of a l ≡ true
  pub right : dominates_of b l ≡ true
  pub greatest : (c : Label) → dominates_of a c ≡ true → dominates_of b c ≡ true → dominates_of l c ≡ true

pub lower_greatest : (a b : Label) → GreatestLower a b (lower_bound_of a b)
lower_greatest a b =
    let l : Label = lower_bound_of a b in
    let e : (dominates_of a l && dominates_of b l) ≡ true = sym (lower_dominates a b l) ∙ dominates_refl l in
    record { left = first_true _ _ e; right = second_true (dominates_of a l) _ e; greatest = λ c p q. lower_dominates a b c ∙ both p q }

-- ---- the bounds of valid labels are valid, and of values of the code's type are such values

pub valid_hierarchy : (a : Label) → valid_of a ≡ true → a.hierarchy ≤ 199
unfolding valid_of
valid_hierarchy a e = leb-true a.hierarchy 199 e

pub hierarchy_valid : (a : Label) → a.hierarchy ≤ 199 → valid_of a ≡ true
unfolding valid_of
hierarchy_valid a h = le-leb a.hierarchy 199 h

pub upper_valid : (a b : Label) → valid_of a ≡ true → valid_of b ≡ true → valid_of (upper_bound_of a b) ≡ true
upper_valid a b e f =
    let p = valid_hierarchy a e in
    let q = valid_hierarchy b f in
    hierarchy_valid (upper_bound_of a b) (omega (arith, upper_hierarchy a b))

pub lower_valid : (a b : Label) → valid_of a ≡ true → valid_of b ≡ true → valid_of (lower_bound_of a b) ≡ true
lower_valid a b e f =
    let p = valid_hierarchy a e in
    hierarchy_valid (lower_bound_of a b) (omega (arith, lower_hierarchy a b))

pub upper_typed : (a b : Label) → Typed a → Typed b → Typed (upper_bound_of a b)
unfolding upper_bound_of
upper_typed a b s t =
    let la = s.length_is in
    let lb = t.length_is in
    let lu = union_length a.categories b.categories in
    let ha = s.hierarchy in
    let hb = t.hierarchy in
    record {
      hierarchy = omega arith;
      length_is = omega arith;
      word = λ i. rw union_at (or_lt 64 (word_at a.categories i) (word_at b.categories i) (s.word i) (t.word i));
    }

-- ---- a label with one category more

pub with_category : (a : Label) (c k : ℕ) → c < categories → has (with_category_of a c).categories k ≡ (has a.categories k || eqb k c)
unfolding with_category_of
with_category a c k h = has_union a.categories (single_of c) k ∙ ap (λ (b : Bool). has a.categories k || b) (has_single c k h)

pub with_category_dominates : (a : Label) (c : ℕ) → dominates_of (with_category_of a c) a ≡ true
unfolding with_category_of dominates_of
with_category_dominates a c =
    both (le-leb a.hierarchy a.hierarchy (le_refl a.hierarchy))
    (first_true _ (includes_of (union_of a.categories (single_of c)) (single_of c))
    (sym (union_includes a.categories (single_of c) (union_of a.categories (single_of c))) ∙ includes_refl (union_of a.categories (single_of c))))

-- a category of a valid label is there if its set includes the category alone
pub category_told : (a : Label) (c : ℕ) → (valid_of a && ltb c categories) ≡ true → includes_of a.categories (single_of c) ≡ has a.categories c
category_told a c t = includes_single a.categories c (ltb-true c categories (second_true (valid_of a) (ltb c categories) t))

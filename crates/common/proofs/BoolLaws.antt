-- Tests that are true together, or of which one is.
use mathlib.Core.Bool.{Bool, true, false, not, ◌&&◌, ◌||◌, and-false, true≢false}
use mathlib.Core.Logic.{◌⊎◌, inl, inr}
use mathlib.Core.Path.{◌≡◌, refl, sym, ◌∙◌}
use borrow.Author.Tests.{not-false, not-true}

pub both : {p q : Bool} → p ≡ true → q ≡ true → (p && q) ≡ true
both {p} {q} e f = rw (e, f)

pub first_true : (p q : Bool) → (p && q) ≡ true → p ≡ true
first_true true q e = refl
first_true false q e = e

pub second_true : (p q : Bool) → (p && q) ≡ true → q ≡ true
second_true true q e = e
second_true false q e = absurd (true≢false (sym e))

pub three_true : (p q r : Bool) → (p && q && r) ≡ true → (p ≡ true) × (q ≡ true) × (r ≡ true)
three_true p q r e = let h = first_true (p && q) r e in (first_true p q h, second_true p q h, second_true (p && q) r e)

pub either : (p q : Bool) → (p || q) ≡ true → (p ≡ true) ⊎ (q ≡ true)
either true q e = inl refl
either false q e = inr e

pub or_first : {p : Bool} (q : Bool) → p ≡ true → (p || q) ≡ true
or_first q e = rw e

pub or_second : (p : Bool) {q : Bool} → q ≡ true → (p || q) ≡ true
or_second true e = refl
or_second false e = e

pub neither : (p q : Bool) → (p || q) ≡ false → (p ≡ false) × (q ≡ false)
neither true q e = absurd (true≢false e)
neither false q e = (refl, e)

-- two tests that imply each other
pub same_truth : (p q : Bool) → (p ≡ true → q ≡ true) → (q ≡ true → p ≡ true) → p ≡ q
same_truth true q f g = sym (f refl)
same_truth false true f g = g refl
same_truth false false f g = refl

-- a test that is true exactly where two others are
pub exactly_both : (p q r : Bool) → (p ≡ true → q ≡ true) → (p ≡ true → r ≡ true) → (q ≡ true → r ≡ true → p ≡ true) → p ≡ (q && r)
exactly_both p q r f g h = same_truth p (q && r) (λ e. both (f e) (g e)) (λ e. h (first_true q r e) (second_true q r e))

-- a test that is not true
pub not_so : (p : Bool) → (p ≡ true → ⊥) → p ≡ false
not_so true h = absurd (h refl)
not_so false h = refl

-- a test among others that the others imply
pub and_implied : (p q r : Bool) → (p ≡ true → r ≡ true → q ≡ true) → (p && q && r) ≡ (p && r)
and_implied false q r h = refl
and_implied true true r h = refl
and_implied true false r h = sym (not_so r (λ e. true≢false (sym (h refl e))))

pub swap_and : (p q r s : Bool) → ((p && q) && (r && s)) ≡ ((p && r) && (q && s))
swap_and true q true s = refl
swap_and true q false s = and-false q
swap_and false q r s = refl

-- what a branch on the negation of r tells of p, where r is ensured to be p
pub told_true : {p r : Bool} → r ≡ p → not r ≡ false → p ≡ true
told_true {p} {r} e h = sym e ∙ not-false r h

pub told_false : {p r : Bool} → r ≡ p → not r ≡ true → p ≡ false
told_false {p} {r} e h = sym e ∙ not-true r h

-- Checks that are passed and that are not, and what follows an answer.
use mathlib.Core.Bool.{Bool, true, false, ◌&&◌, true≢false}
use Rattle.std.specs.Prelude.{Option, None, Result, Ok, Err}
use mathlib.Core.Path.{◌≡◌, refl, sym, ap, ◌∙◌}
use Prim.Native.Nat.{ℕ}
use Rattle.common.specs.Answer.{Answer, and_then, answer_of, granted, is_granted, refused, refused_by, require, value_or}
use Rattle.common.specs.declared.errno.Errno.{Errno}

pub passed : {A : Type 0} (t : Bool) (n : ℕ) (rest : Answer A) → t ≡ true → require t n rest ≡ rest
passed t n rest e = rw e

pub stopped : {A : Type 0} (t : Bool) (n : ℕ) (rest : Answer A) → t ≡ false → require t n rest ≡ refused n None
stopped t n rest e = rw e

-- a check that is passed or not alike, with what follows alike where it is passed
pub require_same : {A : Type 0} (p q : Bool) (n : ℕ) (x y : Answer A) → p ≡ q → (p ≡ true → x ≡ y) → require p n x ≡ require q n y
require_same true q n x y e h = rw (← e) (h refl)
require_same false q n x y e h = rw (← e) refl

-- by the check before it, which the code has tested as r
pub answers_invalid : {A : Type 0} {t r : Bool} (e : r ≡ t) (rest : Answer A) → r ≡ false → refused 22 None ≡ require t 22 rest
answers_invalid {t} e rest h = sym (stopped t 22 rest (sym e ∙ h))

-- ---- what follows an answer

pub then_then : {A B C : Type 0} (x : Answer A) (f : A → Answer B) (g : B → Answer C) → and_then (and_then x f) g ≡ and_then x (λ a. and_then (f a) g)
then_then (granted a) f g = refl
then_then (refused n detail) f g = refl

pub require_then : {A B : Type 0} (t : Bool) (n : ℕ) (x : Answer A) (f : A → Answer B) → and_then (require t n x) f ≡ require t n (and_then x f)
require_then true n x f = refl
require_then false n x f = refl

pub require_both : {A : Type 0} (p q : Bool) (n : ℕ) (rest : Answer A) → require (p && q) n rest ≡ require p n (require q n rest)
require_both true q n rest = refl
require_both false q n rest = refl

-- a result is taken apart: what follows its value, or its refusal passed on
module _ {A : Type 0} {r : Result A Errno} {x : Answer A} (h : answer_of r ≡ x) where
  pub granted_is : {value : A} → r ≡ Ok value → x ≡ granted value
  granted_is e = sym h ∙ ap answer_of e

  pub grant_next : {B : Type 0} {value : A} (next : A → Answer B) → r ≡ Ok value → and_then x next ≡ next value
  grant_next next e = ap (λ (y : Answer A). and_then y next) (granted_is e)

  pub refused_is : {e : Errno} → r ≡ Err e → x ≡ refused_by e
  refused_is e = sym h ∙ ap answer_of e

  pub refused_next : {B : Type 0} (next : A → Answer B) {e : Errno} → r ≡ Err e → and_then x next ≡ refused_by e
  refused_next next e = ap (λ (y : Answer A). and_then y next) (refused_is e)

-- ---- what an answer tells of the check before it

-- a test that a call answers, read by f, and a refusal for a no
abbrev pub read_by : (Bool → Bool) → Answer Bool → Bool
read_by f (granted b) = f b
read_by f (refused n detail) = false

-- where the call tests t and tells the value, that says whether t holds and f of the value
pub test_read : (f : Bool → Bool) (t value : Bool) (n : ℕ) {u v : Result Bool Errno} → u ≡ v → answer_of u ≡ require t n (granted value) → read_by f (answer_of v) ≡ (t && f value)
test_read f t value n e h = ap (λ (w : Result Bool Errno). read_by f (answer_of w)) (sym e) ∙ ap (read_by f) h ∙ by t
  where
    by : (t : Bool) → read_by f (require t n (granted value)) ≡ (t && f value)
    by true = refl
    by false = refl

pub grant_passed : {A : Type 0} (t : Bool) (n : ℕ) (x : A) (rest : Answer A) → granted x ≡ require t n rest → (t ≡ true) × (granted x ≡ rest)
grant_passed true n x rest e = (refl, e)
grant_passed false n x rest e = absurd (true≢false (ap is_granted e))

pub grants_same : {A : Type 0} (x y : A) → granted x ≡ granted y → x ≡ y
grants_same x y e = ap (value_or x) e

pub refusal_stopped : {A : Type 0} (t : Bool) (n m : ℕ) (detail : Option ℕ) (y : A) → refused m detail ≡ require t n (granted y) → t ≡ false
refusal_stopped true n m detail y e = absurd (true≢false (sym (ap is_granted e)))
refusal_stopped false n m detail y e = refl

-- a grant tells what was to be told, and that the check before it was passed
pub grant_told : {A : Type 0} (t : Bool) (n : ℕ) (x y : A) → granted x ≡ require t n (granted y) → (t ≡ true) × (x ≡ y)
grant_told t n x y e = let p = grant_passed t n x (granted y) e in (p.0, grants_same x y p.1)

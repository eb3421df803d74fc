-- What is left of a limit, and what fits into it.
use mathlib.Core.Bool.{Bool, true, false, cond}
use mathlib.Core.List.{List}
use mathlib.Core.Path.{◌≡◌, refl, sym, ap, ◌∙◌}
use Prim.Native.Nat.{ℕ, ◌+◌, ◌-◌, ◌≤◌, ◌<◌}
use native.Mathlib.Omega.{arith}
use borrow.Author.Tests.{le-leb, lt-leb, leb-true}
use lib.Dec.{leb}
use lib.ListN.{length, get_or, take}
use Rattle.std.specs.List.{sum_by}
use Rattle.std.specs.Prelude.{None, Some, is_some}
use Rattle.std.proofs.lemmas.List.{take_all as list_take_all}
use Rattle.std.proofs.lemmas.List.Sums.{sum_by_more_le}
use Rattle.common.proofs.BoolLaws.{same_truth}
use Rattle.segment_table.specs.Limits.{fits_in, limit_left}

over_limit : (limit n : ℕ) → limit < n → limit_left limit n ≡ None
over_limit limit n h = rw (lt-leb n limit h)

under_limit : (limit n left : ℕ) → left + n ≡ limit → limit_left limit n ≡ Some left
under_limit limit n left e =
    let h : n ≤ limit = omega arith in
    let d : limit - n ≡ left = omega arith in
    rw (le-leb n limit h, d)

-- a limit from which what f gives of each element of a list is taken, one after another
module _ {X : Type 0} (f : X → ℕ) (xs : List X) (limit : ℕ) where
  -- the element at i is too much for what is left
  pub take_over : (i left : ℕ) (d : X) → i < length xs → left < f (get_or xs i d) → left + sum_by f (take i xs) ≡ limit → limit_left limit (sum_by f xs) ≡ None
  take_over i left d l h e = let m = sum_by_more_le f xs i d l in over_limit limit (sum_by f xs) (omega arith)

  pub take_all : (i left : ℕ) → length xs ≤ i → left + sum_by f (take i xs) ≡ limit → limit_left limit (sum_by f xs) ≡ Some left
  take_all i left l e = under_limit limit (sum_by f xs) left (sym (ap (λ (ys : List X). left + sum_by f ys) (list_take_all i xs l)) ∙ e)

-- whether the limit is kept is told by what is left of it
pub kept_exact : (limit n : ℕ) → is_some (limit_left limit n) ≡ leb n limit
kept_exact limit n = by (leb n limit)
  where
    by : (p : Bool) → is_some (cond p (Some (limit - n)) None) ≡ p
    by true = refl
    by false = refl

-- where a limit is kept, what fits is told by what is left of it
pub fits_exact : (limit used replaced wanted : ℕ) → used ≤ limit → replaced ≤ used → fits_in (limit_left limit used) replaced wanted ≡ leb (used - replaced + wanted) limit
fits_exact limit used replaced wanted h k =
    rw (le-leb used limit h)
    (same_truth (leb wanted (limit - used + replaced)) (leb (used - replaced + wanted) limit)
    (λ e. let l = leb-true wanted (limit - used + replaced) e in le-leb (used - replaced + wanted) limit (omega arith))
    (λ e. let l = leb-true (used - replaced + wanted) limit e in le-leb wanted (limit - used + replaced) (omega arith)))

pub fits_more : (limit used wanted : ℕ) → used ≤ limit → fits_in (limit_left limit used) 0 wanted ≡ leb (used + wanted) limit
fits_more limit used wanted h =
    let z : used - 0 ≡ used = omega arith in
    fits_exact limit used 0 wanted h (omega arith) ∙ ap (λ (n : ℕ). leb (n + wanted) limit) z

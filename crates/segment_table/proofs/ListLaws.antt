-- The sum of what a list's elements have, as that by the index, and a part of a list.
use mathlib.Core.List.{List, [], ◌∷◌}
use mathlib.Core.Path.{◌≡◌, refl, sym, ap, ap₂, ◌∙◌}
use Prim.Native.Nat.{ℕ, zero, suc, ◌+◌, ◌-◌, ◌≤◌, ◌<◌, suc-le-suc}
use native.Mathlib.Nat.{add-zero, zero-lt-suc}
use native.Mathlib.Omega.{arith}
use lib.ListN.{length, get_or, drop, length-drop, length-take}
use Rattle.std.specs.List.{slice_range, sum_by}
use Rattle.std.proofs.lemmas.List.{get_or-drop, get_or-take}
use Rattle.std.proofs.lemmas.List.Sums.{sum_by-cons}
use Rattle.common.specs.Index.{sum_from}

next_at : (k i : ℕ) → suc k + i ≡ k + suc i
next_at k i = omega arith

-- the sum of what f gives of each element, where g gives the same from k on
pub sum_element : {X : Type 0} (f : X → ℕ) (g : ℕ → ℕ) (xs : List X) (k n : ℕ) (d : X) → length xs ≡ n → ((i : ℕ) → i < n → g (k + i) ≡ f (get_or xs i d)) → sum_from g k n ≡ sum_by f xs
unfolding sum_from
sum_element f g [] k zero d e h = refl
sum_element f g [] k (suc n) d e h = absurd (omega arith)
sum_element f g (x ∷ xs) k zero d e h = absurd (omega arith)
sum_element f g (x ∷ xs) k (suc n) d e h =
    ap₂ (λ (a b : ℕ). a + b) (ap g (sym (add-zero k)) ∙ h 0 (zero-lt-suc n))
    (sum_element f g xs (suc k) n d (omega arith) (λ i l. ap g (next_at k i) ∙ h (suc i) (suc-le-suc l)))
    ∙ sym (sum_by-cons f x xs)

-- ---- a part of a list

pub part_at : {X : Type 0} (xs : List X) (k n i : ℕ) (d : X) → i < n → get_or (slice_range xs k (k + n)) i d ≡ get_or xs (k + i) d
part_at xs k n i d h = get_or-take (k + n - k) (drop k xs) i d (omega arith) ∙ get_or-drop k xs i d

pub part_length : {X : Type 0} (xs : List X) (k n : ℕ) → k + n ≤ length xs → length (slice_range xs k (k + n)) ≡ n
part_length xs k n h = simp (length-take, length-drop) (omega arith)

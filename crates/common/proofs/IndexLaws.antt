-- The laws of `tabulate` and `every`, and what a loop over the index needs of them.
use mathlib.Core.Bool.{Bool, true, false, ◌&&◌, true≢false}
use mathlib.Core.List.{List, [], ◌∷◌, ◌++◌, append_assoc, append-nil, map}
use mathlib.Core.Logic.{◌⊎◌, inl, inr, ⊎_elim}
use mathlib.Core.Path.{◌≡◌, refl, sym, ap, ◌∙◌}
use Prim.Native.Nat.{ℕ, zero, suc, ◌+◌, ◌≤◌, ◌<◌}
use native.Mathlib.Nat.{add-zero, eq-or-lt_of_le, le_of_suc-le-suc}
use native.Mathlib.Numerals.{add-one}
use native.Mathlib.Omega.{arith}
use lib.Dec.{leb}
use lib.ListN.{length, get_or, replicate, set, take, get_or-replicate, length-append, length-map, length-replicate, length-set, get_or-append, get_or-eq_default}
use lib.Seq.{ext_get_or, get_or_at, take-suc-set, take_all}
use borrow.Author.Tests.{leb-true, leb-false}
use Rattle.common.specs.Index.{every, tabulate}
use Rattle.common.proofs.BoolLaws.{both, first_true, second_true, not_so}

pub le_or_lt : (m n : ℕ) → (m ≤ n) ⊎ (n < m)
le_or_lt m n = pick (leb m n) refl
  where
    pick : (p : Bool) → leb m n ≡ p → (m ≤ n) ⊎ (n < m)
    pick true e = inl (leb-true m n e)
    pick false e = inr (leb-false m n e)

-- a list is as long as what is made of each of its elements: for the length of an array of structs
pub length_mapped : (X Y : Type 0) (f : X → Y) (l : List X) (n : ℕ) → length (map f l) ≡ n → length l ≡ n
length_mapped X Y f l n e = sym (length-map l f) ∙ e

-- ---- tabulate

module _ {A : Type 0} (f : ℕ → A) where
  pub tabulate_length : (n : ℕ) → length (tabulate f n) ≡ n
  unfolding tabulate
  tabulate_length zero = refl
  tabulate_length (suc n) = let ih = tabulate_length n in simp length-append (omega arith)

  pub tabulate_at : (n i : ℕ) (d : A) → i < n → get_or (tabulate f n) i d ≡ f i
  unfolding tabulate
  tabulate_at zero i d h = absurd (omega arith)
  tabulate_at (suc n) i d h = go (eq-or-lt_of_le (le_of_suc-le-suc h)) (tabulate_at n i d)
    where
      go : (i ≡ n) ⊎ (i < n) → (i < n → get_or (tabulate f n) i d ≡ f i) → get_or (tabulate f n ++ (f n ∷ [])) i d ≡ f i
      go (inl e) ih = get_or_at (tabulate f n) (f n) [] d i (tabulate_length n ∙ sym e) ∙ ap f (sym e)
      go (inr l) ih = let k = tabulate_length n in get_or-append (tabulate f n) (f n ∷ []) d i (omega arith) ∙ ih l

  -- a list is known by its elements
  pub tabulate_is : (r : List A) (n : ℕ) (d : A) → length r ≡ n → ((i : ℕ) → i < n → get_or r i d ≡ f i) → r ≡ tabulate f n
  tabulate_is r n d e h =
      ext_get_or d r (tabulate f n) (e ∙ sym (tabulate_length n)) (λ i l. let k : i < n = omega arith in h i k ∙ sym (tabulate_at n i d k))

  pub tabulate_one : (n : ℕ) (a : A) → ((i : ℕ) → i < n → f i ≡ a) → replicate n a ≡ tabulate f n
  tabulate_one n a h = tabulate_is (replicate n a) n a (length-replicate n a) (λ i l. get_or-replicate n i a a l ∙ sym (h i l))

  -- a loop that fills r from the front
  fill_step : (r : List A) (i : ℕ) (v : A) → i < length r → v ≡ f i → take i r ≡ tabulate f i → take (i + 1) (set r i v) ≡ tabulate f (i + 1)
  unfolding tabulate
  fill_step r i v h e inv = rw (add-one, take-suc-set r i v h, inv, e)

  fill_done : (r : List A) (i n : ℕ) → i ≡ n → length r ≡ n → take i r ≡ tabulate f i → r ≡ tabulate f n
  fill_done r i n e h inv = sym (take_all i r (omega arith)) ∙ inv ∙ ap (tabulate f) e

-- such a loop's invariant, for r of n elements
pub record Filled {A : Type 0} (f : ℕ → A) (n : ℕ) (r : List A) (i : ℕ) : Type 0 where
  pub upto : i ≤ n
  pub long : length r ≡ n
  pub front : take i r ≡ tabulate f i

module _ {A : Type 0} {f : ℕ → A} {n : ℕ} {r : List A} where
  pub fill_none : length r ≡ n → Filled f n r 0
  unfolding tabulate
  fill_none e = record { upto = omega arith; long = e; front = refl }

  pub fill_next : {i : ℕ} {v : A} → Filled f n r i → i < n → v ≡ f i → Filled f n (set r i v) (i + 1)
  fill_next {i} {v} h l e =
      let k = h.long in
      record { upto = omega arith; long = length-set r i v ∙ k; front = fill_step f r i v (omega arith) e h.front }

  pub fill_all : {i : ℕ} → Filled f n r i → n ≤ i → r ≡ tabulate f n
  fill_all {i} h l = let u = h.upto in fill_done f r i n (omega arith) h.long h.front

pub tabulate_same : (f g : ℕ → ℕ) (n : ℕ) → ((i : ℕ) → i < n → f i ≡ g i) → tabulate f n ≡ tabulate g n
tabulate_same f g n h = tabulate_is g (tabulate f n) n 0 (tabulate_length f n) (λ i l. tabulate_at f n i 0 l ∙ h i l)

pub tabulate_more : (f : ℕ → ℕ) (m n : ℕ) → tabulate f m ++ tabulate (λ k. f (m + k)) n ≡ tabulate f (m + n)
unfolding tabulate
tabulate_more f m zero = append-nil (tabulate f m) ∙ ap (tabulate f) (sym (add-zero m))
tabulate_more f m (suc n) =
    sym (append_assoc (tabulate f m) (tabulate (λ k. f (m + k)) n) (f (m + n) ∷ []))
    ∙ ap (λ (l : List ℕ). l ++ (f (m + n) ∷ [])) (tabulate_more f m n)
    ∙ ap (tabulate f) {x = suc (m + n)} {y = m + suc n} (omega arith)

-- past the end too, where f goes on with zeros
pub tabulate_pad : (f : ℕ → ℕ) (n i : ℕ) → (n ≤ i → f i ≡ 0) → get_or (tabulate f n) i 0 ≡ f i
tabulate_pad f n i h =
    ⊎_elim (λ l. let k = tabulate_length f n in get_or-eq_default (tabulate f n) 0 (omega arith) ∙ sym (h l)) (λ l. tabulate_at f n i 0 l) (le_or_lt n i)

-- ---- every

module _ (f : ℕ → Bool) where
  pub every_at : (n i : ℕ) → every f n ≡ true → i < n → f i ≡ true
  unfolding every
  every_at zero i e h = absurd (omega arith)
  every_at (suc n) i e h =
      ⊎_elim (λ u. ap f u ∙ second_true (every f n) (f n) e) (λ u. every_at n i (first_true (every f n) (f n) e) u) (eq-or-lt_of_le (le_of_suc-le-suc h))

  pub every_all : (n : ℕ) → ((i : ℕ) → i < n → f i ≡ true) → every f n ≡ true
  unfolding every
  every_all zero h = refl
  every_all (suc n) h = both (every_all n (λ i l. h i (omega arith))) (h n (omega arith))

  pub every_more : (i : ℕ) → every f (i + 1) ≡ (every f i && f i)
  unfolding every
  every_more i = rw add-one

  -- a loop that has found f true at each index so far: it goes on, stops where f is false, or ends
  every_next : (i : ℕ) → every f i ≡ true → f i ≡ true → every f (i + 1) ≡ true
  unfolding every
  every_next i e h = rw add-one (both e h)

  every_stop : (n i : ℕ) → i < n → f i ≡ false → every f n ≡ false
  every_stop n i l h = not_so (every f n) (λ e. true≢false (sym (every_at n i e l) ∙ h))

  every_done : (n i : ℕ) → i ≡ n → every f i ≡ true → every f n ≡ true
  every_done n i e h = rw e at h

-- such a loop's invariant, for n numbers
pub record Tested (f : ℕ → Bool) (n i : ℕ) : Type 0 where
  pub upto : i ≤ n
  pub true_below : every f i ≡ true

module _ {f : ℕ → Bool} {n : ℕ} where
  pub test_none : Tested f n 0
  unfolding every
  test_none = record { upto = omega arith; true_below = refl }

  pub test_next : {i : ℕ} → Tested f n i → i < n → f i ≡ true → Tested f n (i + 1)
  test_next {i} h l e = record { upto = omega arith; true_below = every_next f i h.true_below e }

  pub test_stop : {i : ℕ} → Tested f n i → i < n → f i ≡ false → false ≡ every f n
  test_stop {i} h l e = sym (every_stop f n i l e)

  pub test_all : {i : ℕ} → Tested f n i → n ≤ i → true ≡ every f n
  test_all {i} h l = let u = h.upto in sym (every_done f n i (omega arith) h.true_below)

-- two tests that agree at each number below n
pub every_same : (f g : ℕ → Bool) (n : ℕ) → ((i : ℕ) → i < n → f i ≡ g i) → every f n ≡ every g n
unfolding every
every_same f g zero h = refl
every_same f g (suc n) h = rw (every_same f g n (λ i l. h i (omega arith)), h n (omega arith))

-- The laws of `some_below`, `first_from`, `last_below` and `sum_from`, and what a loop over the index needs of them.
use mathlib.Core.Bool.{Bool, true, false, not, ◌&&◌, ◌||◌, and-true, true≢false}
use mathlib.Core.Logic.{◌⊎◌, inl, inr, ⊎_elim}
use Rattle.std.specs.Prelude.{Option, None, Some}
use Rattle.std.proofs.lemmas.Option.{none-some}
use mathlib.Core.Path.{◌≡◌, refl, sym, ap, ◌∙◌}
use Prim.Native.Nat.{ℕ, zero, suc, ◌+◌, ◌-◌, ◌≤◌, ◌<◌, suc-le-suc}
use native.Mathlib.Nat.{zero-lt-suc, eq-or-lt_of_le, add-zero, zero-add, suc-add}
use native.Mathlib.Numerals.{add-one}
use native.Mathlib.Omega.{arith}
use lib.Dec.{eqb}
use borrow.Author.Tests.{eqb-true, eqb-false, not-false, not-true}
use Rattle.common.specs.Index.{some_below, every, first_from, first_or, last_below, sum_from}
use Rattle.common.proofs.IndexLaws.{every_at, every_same}
use Rattle.common.proofs.BoolLaws.{not_so, or_second}

pub same_or_not : (m n : ℕ) → (m ≡ n) ⊎ (m ≡ n → ⊥)
same_or_not m n = pick (eqb m n) refl
  where
    pick : (p : Bool) → eqb m n ≡ p → (m ≡ n) ⊎ (m ≡ n → ⊥)
    pick true e = inl (eqb-true m n e)
    pick false e = inr (eqb-false m n e)

-- ---- some number at which f holds

module _ (f : ℕ → Bool) where
  pub any_of : (n i : ℕ) → i < n → f i ≡ true → some_below f n ≡ true
  any_of n i l h =
      ap not (not_so (every (λ j. not (f j)) n) (λ e. true≢false (sym (every_at (λ j. not (f j)) n i e l) ∙ ap not h)))

  pub none_of : (n i : ℕ) → some_below f n ≡ false → i < n → f i ≡ false
  none_of n i e l = not-true (f i) (every_at (λ j. not (f j)) n i (not-false (every (λ j. not (f j)) n) e) l)

  -- what holds wherever f does holds if f does somewhere
  pub any_then : {A : Type 0} (n : ℕ) → some_below f n ≡ true → ((i : ℕ) → i < n → f i ≡ true → A) → A
  unfolding every
  any_then {A} zero e h = absurd (true≢false (sym e))
  any_then {A} (suc n) e h = go (f n) refl e (λ g. any_then n g (λ i l. h i (omega arith)))
    where
      go : (p : Bool) → f n ≡ p → not (every (λ j. not (f j)) n && not p) ≡ true → (some_below f n ≡ true → A) → A
      go true z g rest = h n (omega arith) z
      go false z g rest = rest (ap not (sym (and-true (every (λ j. not (f j)) n))) ∙ g)

pub any_same : (f g : ℕ → Bool) (n : ℕ) → ((i : ℕ) → i < n → f i ≡ g i) → some_below f n ≡ some_below g n
any_same f g n h = ap not (every_same (λ i. not (f i)) (λ i. not (g i)) n (λ i l. ap not (h i l)))

-- ---- the search

over : (a b : ℕ) → suc a + b ≡ a + suc b
over a b = omega arith

module _ (f : ℕ → Bool) where
  pub pass_one : (k n : ℕ) → f k ≡ false → first_from f k (suc n) ≡ first_from f (suc k) n
  unfolding first_from
  pass_one k n e = ap (λ (p : Bool). first_or p k (first_from f (suc k) n)) e

  pub pass : (k m n : ℕ) → ((j : ℕ) → j < m → f (k + j) ≡ false) → first_from f k (m + n) ≡ first_from f (k + m) n
  pass k zero n h = rw (zero-add, add-zero)
  pass k (suc m) n h =
      ap (first_from f k) (suc-add m n)
      ∙ pass_one k (m + n) (ap f (sym (add-zero k)) ∙ h 0 (zero-lt-suc m))
      ∙ pass (suc k) m n (λ j l. ap f (over k j) ∙ h (suc j) (suc-le-suc l))
      ∙ ap (λ (i : ℕ). first_from f i n) (over k m)

  pub hit : (k n t : ℕ) → t < n → ((j : ℕ) → j < t → f (k + j) ≡ false) → f (k + t) ≡ true → first_from f k n ≡ Some (k + t)
  unfolding first_from
  hit k n t l h e =
      let r : n ≡ t + suc (n - suc t) = omega arith in
      ap (first_from f k) r ∙ pass k t (suc (n - suc t)) h
      ∙ ap (λ (p : Bool). first_or p (k + t) (first_from f (suc (k + t)) (n - suc t))) e

  -- the least number from k on at which f holds
  pub record Least (k m : ℕ) : Type 0 where
    pub above : k ≤ m
    pub there : f m ≡ true
    pub none_before : (j : ℕ) → k ≤ j → j < m → f j ≡ false

  pub first_least : (k n m : ℕ) → first_from f k n ≡ Some m → Least k m × (m < k + n)
  unfolding first_from
  first_least k zero m e = absurd (none-some m e)
  first_least k (suc n) m e = go (f k) refl e (first_least (suc k) n m)
    where
      go : (p : Bool) → f k ≡ p → first_or p k (first_from f (suc k) n) ≡ Some m → (first_from f (suc k) n ≡ Some m → Least (suc k) m × (m < suc k + n)) → Least k m × (m < k + suc n)
      go true h g ih =
          let q : k ≡ m = cc in
          (record { above = omega arith; there = ap f (sym q) ∙ h; none_before = λ j a b. absurd (omega arith) }, omega arith)
      go false h g ih =
          let r = ih g in
          let l = r.0.above in
          let u = r.1 in
          (record { above = omega arith; there = r.0.there; none_before = λ j a b. ⊎_elim (λ u. ap f (sym u) ∙ h) (λ u. r.0.none_before j u b) (eq-or-lt_of_le a) }, omega arith)

  pub first_none : (k n : ℕ) → first_from f k n ≡ None → (j : ℕ) → k ≤ j → j < k + n → f j ≡ false
  unfolding first_from
  first_none k zero e j a b = absurd (omega arith)
  first_none k (suc n) e j a b = go (f k) refl e (λ g u. first_none (suc k) n g j u (omega arith))
    where
      go : (p : Bool) → f k ≡ p → first_or p k (first_from f (suc k) n) ≡ None → (first_from f (suc k) n ≡ None → suc k ≤ j → f j ≡ false) → f j ≡ false
      go true h g ih = absurd (none-some k (sym g))
      go false h g ih = ⊎_elim (λ u. ap f (sym u) ∙ h) (ih g) (eq-or-lt_of_le a)

-- two tests that agree at each number that is searched
pub first_same : (f g : ℕ → Bool) (k n : ℕ) → ((j : ℕ) → k ≤ j → j < k + n → f j ≡ g j) → first_from f k n ≡ first_from g k n
unfolding first_from
first_same f g k zero h = refl
first_same f g k (suc n) h = rw (h k (omega arith) (omega arith), first_same f g (suc k) n (λ j a b. h j (omega arith) (omega arith)))

-- what the one search finds, and if it finds nothing, what the other does
abbrev pub or_else : Option ℕ → Option ℕ → Option ℕ
or_else (Some k) o = Some k
or_else None o = o

-- a search by f or g, where f holds at none of the first m numbers: the first of these at which g holds, if there is one
pub first_either : (f g : ℕ → Bool) (k m n : ℕ) → ((j : ℕ) → k ≤ j → j < k + m → f j ≡ false)
    → first_from (λ j. f j || g j) k (m + n) ≡ or_else (first_from g k m) (first_from (λ j. f j || g j) (k + m) n)
unfolding first_from
first_either f g k zero n h = rw (zero-add, add-zero)
first_either f g k (suc m) n h =
    ap (first_from (λ j. f j || g j) k) (suc-add m n)
    ∙ pick (f k) (h k (omega arith) (omega arith)) (g k) _ (first_from g (suc k) m) _
    (first_either f g (suc k) m n (λ j a b. h j (omega arith) (omega arith)) ∙ ap (λ (i : ℕ). or_else (first_from g (suc k) m) (first_from (λ j. f j || g j) i n)) (over k m))
  where
    pick : (p : Bool) → p ≡ false → (q : Bool) (x y z : Option ℕ) → x ≡ or_else y z → first_or (p || q) k x ≡ or_else (first_or q k y) z
    pick p e true x y z r = rw (or_second p refl)
    pick p e false x y z r = rw e r

-- a search that is at k of n numbers: it stops, goes on, or ends
module _ (f : ℕ → Bool) (k n : ℕ) where
  pub search_hit : k < n → f k ≡ true → first_from f k (n - k) ≡ Some k
  unfolding first_from
  search_hit l e = let r : n - k ≡ suc (n - suc k) = omega arith in rw (r, e)

  pub search_pass : k < n → f k ≡ false → first_from f k (n - k) ≡ first_from f (k + 1) (n - (k + 1))
  search_pass l e = let r : n - k ≡ suc (n - (k + 1)) = omega arith in rw r (pass_one f k (n - (k + 1)) e ∙ rw add-one)

  pub search_end : n ≤ k → first_from f k (n - k) ≡ None
  unfolding first_from
  search_end l = let r : n - k ≡ 0 = omega arith in rw r

-- ---- the last

module _ (f : ℕ → Bool) where
  pub last_hit : (k : ℕ) → f k ≡ true → last_below f (k + 1) ≡ Some k
  unfolding last_below
  last_hit k e = rw (add-one, e)

  pub last_pass : (k n : ℕ) → k ≤ n → ((j : ℕ) → k ≤ j → j < n → f j ≡ false) → last_below f n ≡ last_below f k
  unfolding last_below
  last_pass k zero l h = let e : k ≡ 0 = omega arith in rw e
  last_pass k (suc n) l h =
      ⊎_elim (λ e. ap (last_below f) (sym e)) (λ u. rw (h n (omega arith) (omega arith)) (last_pass k n (omega arith) (λ j a b. h j a (omega arith)))) (eq-or-lt_of_le l)

  -- it is below n, and f holds there
  pub last_holds : (n k : ℕ) → last_below f n ≡ Some k → (k < n) × (f k ≡ true)
  unfolding last_below
  last_holds zero k e = absurd (none-some k e)
  last_holds (suc n) k e = go (f n) refl e (last_holds n k)
    where
      go : (p : Bool) → f n ≡ p → first_or p n (last_below f n) ≡ Some k → (last_below f n ≡ Some k → (k < n) × (f k ≡ true)) → (k < suc n) × (f k ≡ true)
      go true h g ih = let q : n ≡ k = cc in (omega arith, ap f (sym q) ∙ h)
      go false h g ih = let r = ih g in let l = r.0 in (omega arith, r.1)

-- ---- sums

-- a loop that has added i of n terms: the rest is the next term and the rest after it
pub sum_next : (f : ℕ → ℕ) (k n i : ℕ) → i < n → sum_from f (k + i) (n - i) ≡ f (k + i) + sum_from f (k + (i + 1)) (n - (i + 1))
unfolding sum_from
sum_next f k n i h =
    let e : n - i ≡ suc (n - (i + 1)) = omega arith in
    let g : suc (k + i) ≡ k + (i + 1) = omega arith in
    rw (e, g)

pub sum_none : (f : ℕ → ℕ) (k : ℕ) → sum_from f k 0 ≡ 0
unfolding sum_from
sum_none f k = refl

pub sum_same : (f g : ℕ → ℕ) (k n : ℕ) → ((j : ℕ) → k ≤ j → j < k + n → f j ≡ g j) → sum_from f k n ≡ sum_from g k n
unfolding sum_from
sum_same f g k zero h = refl
sum_same f g k (suc n) h = rw (h k (omega arith) (omega arith), sum_same f g (suc k) n (λ j a b. h j (omega arith) (omega arith)))

-- two sums whose terms agree but perhaps at i
pub sum_but : (f g : ℕ → ℕ) (i k n : ℕ) → ((j : ℕ) → (j ≡ i → ⊥) → g j ≡ f j) → k ≤ i → i < k + n → sum_from g k n + f i ≡ sum_from f k n + g i
unfolding sum_from
sum_but f g i k zero h a b = absurd (omega (arith, add-zero k))
sum_but f g i k (suc n) h a b =
    ⊎_elim
    (λ (q : k ≡ i).
    let r = sum_same g f (suc k) n (λ j a b. h j (λ z. omega arith)) in
    omega (arith, ap f q, ap g q))
    (λ (q : k ≡ i → ⊥). let r = sum_but f g i (suc k) n h (omega (arith, q)) (omega arith) in omega (arith, h k q))
    (same_or_not k i)

-- a term is at most the sum
pub sum_term : (f : ℕ → ℕ) (i k n : ℕ) → k ≤ i → i < k + n → f i ≤ sum_from f k n
unfolding sum_from
sum_term f i k zero a b = absurd (omega (arith, add-zero k))
sum_term f i k (suc n) a b =
    ⊎_elim (λ (q : k ≡ i). omega (arith, ap f q)) (λ (q : k ≡ i → ⊥). let r = sum_term f i (suc k) n (omega (arith, q)) (omega arith) in omega arith) (same_or_not k i)

pub sum_zero : (f : ℕ → ℕ) (k n : ℕ) → ((j : ℕ) → k ≤ j → j < k + n → f j ≡ 0) → sum_from f k n ≡ 0
unfolding sum_from
sum_zero f k zero h = refl
sum_zero f k (suc n) h = let a = h k (omega arith) (omega arith) in let b = sum_zero f (suc k) n (λ j a b. h j (omega arith) (omega arith)) in omega arith

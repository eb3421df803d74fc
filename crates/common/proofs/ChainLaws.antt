-- What `all` says of an array's elements, and `array::from_fn` of its array, by the index.
use mathlib.Core.Bool.{Bool, true, false}
use mathlib.Core.List.{List, [], ◌∷◌}
use mathlib.Core.Logic.{⊎_elim}
use mathlib.Core.Path.{◌≡◌, sym, ap, ◌∙◌, subst}
use Prim.Native.Nat.{ℕ, zero, suc, ◌+◌, ◌≤◌, ◌<◌}
use native.Mathlib.Nat.{eq-or-lt_of_le, zero-add}
use native.Mathlib.Omega.{arith}
use denote.Param.Members.{Mut, Called}
use lib.ListN.{length, get_or}
use Rattle.std.specs.Array.{IsFromFnResult, IsFromFnResultFrom}
use Rattle.std.specs.Bool.{MatchBool}
use Rattle.std.specs.Iterator.{ChecksAll}
use Rattle.std.specs.List.{AllWithin, HoldsAt, enumerate_from, list_all, zip}
use Rattle.std.specs.Prelude.{Option}
use Rattle.std.proofs.lemmas.Iterator.{YieldsList, cases_from_all}
use Rattle.std.proofs.lemmas.List.{get_or_default}
use Rattle.std.proofs.lemmas.List.Folds.{list_all_at}
use Rattle.std.proofs.lemmas.List.FromFn.{get_or-enumerate_from, length-enumerate_from}
use Rattle.std.proofs.lemmas.List.Sums.{AllPass-from_list_all, list_all-from_AllPass}
use Rattle.std.proofs.lemmas.Slice.Zip.{get_or-zip, length-zip}
use Rattle.common.specs.Index.{every, tabulate}
use Rattle.common.proofs.BoolLaws.{same_truth}
use Rattle.common.proofs.IndexLaws.{every_all, every_at, tabulate_is}

-- ---- `all`: of what an iterator gives, and of n elements, where p of the element at i is f i

pub all_run : {S A X F : Type 0} {steps : S → Option A → S → Type 0} {v : A → X} {g : Mut F (A × Unit {0}) Bool} {s : S} (u : S) (t : F) {r : Bool} (p : X → Bool) (xs : List X)
    → ChecksAll steps g s t r u → YieldsList steps v s xs
    → ((x : A) (b : Bool) (q : F) → Called g t (x, tt) b q → (q ≡ t) × (b ≡ p (v x))) → r ≡ list_all p xs
all_run {X} {v} u t {r} p xs ran gives h =
    told r xs
    (cases_from_all u t r (λ x. p x ≡ true) (λ x. p x ≡ false) ran gives (λ x q c. let k = h x true q c in (k.0, sym k.1)) (λ x q c. sym (h x false q c).1))
  where
    told : (r : Bool) (xs : List X) → MatchBool r (AllWithin (λ x. p x ≡ true) xs 0 (length xs)) ((k : ℕ) × (k < length xs) × HoldsAt (λ x. p x ≡ false) xs k) → r ≡ list_all p xs
    told true xs a = sym (list_all-from_AllPass p xs (λ k d l. a k d (omega arith) l))
    told false [] a = absurd (omega (arith, a.1))
    told false (x ∷ xs) a = sym (list_all_at p (x ∷ xs) a.0 x a.1 (a.2 x))

pub every_element : {X : Type 0} (p : X → Bool) (f : ℕ → Bool) (xs : List X) (n : ℕ) (d : X) → length xs ≡ n → ((i : ℕ) → i < n → p (get_or xs i d) ≡ f i) → list_all p xs ≡ every f n
every_element {X} p f xs n d e h =
    same_truth (list_all p xs) (every f n)
    (λ a. every_all f n (λ i l. sym (h i l) ∙ AllPass-from_list_all p xs a i d (omega arith)))
    (λ a. list_all-from_AllPass p xs (λ k c l. let b : k < n = omega arith in ap p (get_or_default xs k c d l) ∙ h k b ∙ every_at f n k a b))

-- over two arrays of n elements, side by side
pub every_pair : {X Y : Type 0} (p : X × Y → Bool) (f : ℕ → Bool) (xs : List X) (ys : List Y) (n : ℕ) (d : X) (c : Y) → length xs ≡ n → length ys ≡ n
    → ((i : ℕ) → i < n → p (get_or xs i d, get_or ys i c) ≡ f i) → list_all p (zip xs ys) ≡ every f n
every_pair p f xs ys n d c e g h =
    every_element p f (zip xs ys) n (d, c) (let l = length-zip xs ys in omega arith)
    (λ i l. ap p (get_or-zip xs ys i (d, c) (omega arith) (omega arith)) ∙ h i l)

-- over an array of n elements, each with its index
pub every_indexed : {X : Type 0} (p : ℕ × X → Bool) (f : ℕ → Bool) (xs : List X) (n : ℕ) (d : X) → length xs ≡ n
    → ((i : ℕ) → i < n → p (i, get_or xs i d) ≡ f i) → list_all p (enumerate_from 0 xs) ≡ every f n
every_indexed p f xs n d e h =
    every_element p f (enumerate_from 0 xs) n (0, d) (length-enumerate_from 0 xs ∙ e)
    (λ i l. ap p (get_or-enumerate_from 0 xs i (0, d) (omega arith)) ∙ ap (λ (k : ℕ). p (k, get_or xs i d)) (zero-add i) ∙ h i l)

-- ---- an array of n elements that a function made, which gave f i at the index i and stayed as it was

module _ {F X : Type 0} (g : Mut F (ℕ × Unit {0}) X) (s : F) (f : ℕ → X) (ys : List X) (d : X) where
  made_from : (i n : ℕ) → ((k : ℕ) (y : X) (t : F) → k < i + n → Called g s (k, tt) y t → (t ≡ s) × (y ≡ f k))
      → IsFromFnResultFrom g s ys i n → (k : ℕ) → i ≤ k → k < i + n → get_or ys k d ≡ f k
  made_from i zero h r k a b = absurd (omega arith)
  made_from i (suc n) h r k a b =
      let told : (r.0 ≡ s) × (r.1 ≡ f i) = h i r.1 r.0 (omega arith) r.3 in
      let rest = subst (λ (t : F). IsFromFnResultFrom g t ys (i + 1) n) told.0 r.4 in
      ⊎_elim (λ (e : i ≡ k). ap (λ (j : ℕ). get_or ys j d) (sym e) ∙ r.2.1 d ∙ told.1 ∙ ap f e)
      (λ (l : i < k). made_from (i + 1) n (λ j y t u c. h j y t (omega arith) c) rest k (omega arith) (omega arith)) (eq-or-lt_of_le a)

pub tabulate_made : {F X : Type 0} {g : Mut F (ℕ × Unit {0}) X} {s : F} {ys : List X} {n : ℕ} (f : ℕ → X) → X
    → ((i : ℕ) (y : X) (t : F) → i < n → Called g s (i, tt) y t → (t ≡ s) × (y ≡ f i)) → IsFromFnResult g s ys n → ys ≡ tabulate f n
tabulate_made {g} {s} {ys} {n} f d h r = tabulate_is f ys n d r.long (λ i l. made_from g s f ys d 0 n (λ k y t a c. h k y t (omega arith) c) r.each i (omega arith) (omega arith))

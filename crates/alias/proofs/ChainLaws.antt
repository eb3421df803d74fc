-- What `find` and `any` say of the numbers of a range, and a `fold` of the elements of a list, where the closure computes a test of them.
use mathlib.Core.Bool.{Bool, true, false, not, ◌||◌, or-false, or_assoc}
use mathlib.Core.List.{List, [], ◌∷◌}
use mathlib.Core.Logic.{⊎_elim}
use mathlib.Core.Path.{◌≡◌, refl, sym, ap, ◌∙◌, subst}
use Prim.Native.Nat.{ℕ, zero, suc, ◌+◌, ◌-◌, ◌≤◌, ◌<◌}
use native.Mathlib.Nat.{add-zero, zero-add}
use native.Mathlib.Numerals.{add-one}
use native.Mathlib.Omega.{arith}
use lib.ListN.{length, get_or}
use denote.Param.Members.{Mut, Called}
use denote.Ref.{Bor}
use borrow.Author.Count.{below_more}
use Rattle.std.specs.Fn.{CalledAt}
use Rattle.std.specs.Iterator.{ChecksAll, ChecksAny, FindsItem, Yields}
use Rattle.std.specs.Iterator.Adapters.{rev_source, rev_steps}
use Rattle.std.specs.List.{FoldsTo, fold, list_all, list_any, range_with_len}
use Rattle.std.specs.Option.{IfSome, MatchOption}
use Rattle.std.specs.Prelude.{Option, None, Some}
use Rattle.std.specs.declared.iter.Rev.{Rev}
use Rattle.std.specs.declared.ops.Range.{Range}
use Rattle.std.proofs.iter.Yields.{nat_range_steps}
use Rattle.std.proofs.iter.runs.Sources.{nat_range_steps_back}
use Rattle.std.proofs.lemmas.Iterator.{YieldsList-from_range, first_from_Range}
use Rattle.std.proofs.lemmas.Iterator.Search.{all_from_yields_List, any_from_yields_List}
use Rattle.std.proofs.lemmas.List.FromFn.{get_or-range_with_len, length-range_with_len}
use Rattle.common.specs.Index.{every, first_from, first_or, last_below, some_below}
use Rattle.common.proofs.IndexLaws.{every_all, every_at, le_or_lt}
use Rattle.common.proofs.BoolLaws.{same_truth}
use Rattle.std.proofs.lemmas.List.{get_or_default}
use Rattle.std.proofs.lemmas.List.Sums.{AllPass-from_list_all, list_all-from_AllPass}
use Rattle.common.proofs.SearchLaws.{any_of, search_end, search_hit, search_pass}

last_none : (f : ℕ → Bool) → last_below f 0 ≡ None
unfolding last_below
last_none f = refl

last_step : (f : ℕ → Bool) (k : ℕ) {b : Bool} → f k ≡ b → last_below f (k + 1) ≡ first_or b k (last_below f k)
unfolding last_below
last_step f k e = rw (add-one, e)

-- ---- the first number of a range at which the test holds, and the last below its end

module _ {F : Type 0} {g : Mut F (Bor ℕ × Unit {0}) Bool} (f : ℕ → Bool) (t : F) (h : (k : ℕ) (b : Bool) (q : F) → CalledAt g t k b q → (q ≡ t) × (b ≡ f k)) where
  pub first_found : (s u : Range ℕ) (r : Option ℕ) → FindsItem nat_range_steps g s t r u → r ≡ first_from f s.start (s.end - s.start)
  first_found s u r d =
      told r (first_from_Range s u t r (λ k. f k ≡ true) (λ k. f k ≡ false) d (λ x q c. sym (h x true q c).1) (λ x q c. let e = h x false q c in (e.0, sym e.1)))
    where
      past : (m k : ℕ) → s.end ≤ k + m → ((j : ℕ) → k ≤ j → j < s.end → f j ≡ false) → None ≡ first_from f k (s.end - k)
      past zero k e z = sym (search_end f k s.end (omega arith))
      past (suc m) k e z =
          ⊎_elim (λ (l : s.end ≤ k). sym (search_end f k s.end l))
          (λ (l : k < s.end). past m (k + 1) (omega arith) (λ j a b. z j (omega arith) b) ∙ sym (search_pass f k s.end l (z k (omega arith) l))) (le_or_lt s.end k)

      upto : (i m k : ℕ) → k + m ≡ i → i < s.end → f i ≡ true → ((j : ℕ) → k ≤ j → j < i → f j ≡ false) → Some i ≡ first_from f k (s.end - k)
      upto i zero k e l y z = let w : k ≡ i = omega arith in rw w (sym (search_hit f i s.end l y))
      upto i (suc m) k e l y z =
          upto i m (k + 1) (omega arith) l y (λ j a b. z j (omega arith) b) ∙ sym (search_pass f k s.end (omega arith) (z k (omega arith) (omega arith)))

      told : (r : Option ℕ) → MatchOption r ((k : ℕ) → s.start ≤ k → k < s.end → f k ≡ false) (λ i. (s.start ≤ i) × (i < s.end) × (f i ≡ true) × ((k : ℕ) → s.start ≤ k → k < i → f k ≡ false))
          → r ≡ first_from f s.start (s.end - s.start)
      told None m = past s.end s.start (omega arith) m
      told (Some i) m = upto i (i - s.start) s.start (omega (arith, m.0)) m.1 m.2 m.3

  down : (xs : List ℕ) (s w u : Rev (Range ℕ)) (r : Option ℕ) (p j : F) → p ≡ t → (rev_source s).start ≡ 0 → Yields (rev_steps nat_range_steps_back) s xs w
      → rev_steps nat_range_steps_back w r u → FoldsTo (λ p x q. CalledAt g p x false q) p xs j → IfSome r (λ x. (q : F) × CalledAt g j x true q)
      → r ≡ last_below f (rev_source s).end
  down [] s w u None p j e z y l c m =
      let b = ap (λ (v : Rev (Range ℕ)). (rev_source v).start) y in
      let d = ap (λ (v : Rev (Range ℕ)). (rev_source v).end) y in
      let n : (rev_source s).end ≡ 0 = omega (arith, l.1.0) in
      rw n (sym (last_none f))
  down [] s w u (Some x) p j e z y l c m =
      let d = ap (λ (v : Rev (Range ℕ)). (rev_source v).end) y in
      let n : (rev_source s).end ≡ x + 1 = omega (arith, l.1.1, l.1.2) in
      rw n (sym (last_step f x (sym (h x true m.0 (subst (λ (q : F). CalledAt g q x true m.0) (sym c ∙ e) m.1)).1)))
  down (x ∷ xs) s w u r p j e z y l c m =
      let k = h x false c.0 (subst (λ (q : F). CalledAt g q x false c.0) e c.1) in
      let n : (rev_source s).end ≡ (rev_source y.0).end + 1 = y.1.1.2 in
      down xs y.0 w u r c.0 j k.0 (omega (arith, y.1.0)) y.2 l c.2 m
      ∙ rw n (sym (last_step f (rev_source y.0).end (ap f (sym y.1.1.1) ∙ sym k.1)))

  pub last_found : (n : ℕ) (s u : Rev (Range ℕ)) (r : Option ℕ) → rev_source s ≡ record { start = 0; end = n } → FindsItem (rev_steps nat_range_steps_back) g s t r u → r ≡ last_below f n
  last_found n s u r e d =
      down d.0 s d.2.0 u r t d.1 refl (ap (λ (v : Range ℕ). v.start) e) d.2.1 d.2.2 d.3 d.4 ∙ ap (λ (v : Range ℕ). last_below f v.end) e

-- ---- whether the test holds at some number of a range from 0 on, or of some element of a list

pub some_none : (f : ℕ → Bool) (n : ℕ) → ((i : ℕ) → i < n → f i ≡ false) → some_below f n ≡ false
some_none f n h = ap not (every_all (λ i. not (f i)) n (λ i l. ap not (h i l)))

-- the elements stand from index k on, and f holds at none of the numbers below k
some_from : {X : Type 0} (p : X → Bool) (f : ℕ → Bool) (n : ℕ) (d : X) (xs : List X) (k : ℕ) → length xs + k ≡ n → ((i : ℕ) → i < length xs → p (get_or xs i d) ≡ f (k + i))
    → ((j : ℕ) → j < k → f j ≡ false) → list_any p xs ≡ some_below f n
some_from p f n d [] k e h z = sym (some_none f n (λ j l. z j (omega arith)))
some_from {X} p f n d (x ∷ xs) k e h z = go (p x) (sym (ap f (add-zero k)) ∙ sym (h 0 (omega arith))) (λ y. some_from p f n d xs (k + 1) (omega arith) later (below_more _ _ z y))
  where
    later : (i : ℕ) → i < length xs → p (get_or xs i d) ≡ f (k + 1 + i)
    later i l = let a : k + suc i ≡ k + 1 + i = omega arith in h (suc i) (omega arith) ∙ ap f a

    go : (b : Bool) → f k ≡ b → (f k ≡ false → list_any p xs ≡ some_below f n) → (b || list_any p xs) ≡ some_below f n
    go true y rest = sym (any_of f n k (omega arith) y)
    go false y rest = rest y

-- p of the element at i is f i
pub some_element : {X : Type 0} (p : X → Bool) (f : ℕ → Bool) (xs : List X) (n : ℕ) (d : X) → length xs ≡ n → ((i : ℕ) → i < n → p (get_or xs i d) ≡ f i) → list_any p xs ≡ some_below f n
some_element p f xs n d e h = some_from p f n d xs 0 (omega arith) (λ i l. let a : i ≡ 0 + i = omega arith in h i (omega arith) ∙ ap f a) (λ j l. absurd (omega arith))

pub some_found : {F : Type 0} {g : Mut F (ℕ × Unit {0}) Bool} (f : ℕ → Bool) (t : F) → ((k : ℕ) (b : Bool) (q : F) → Called g t (k, tt) b q → (q ≡ t) × (b ≡ f k))
    → (n : ℕ) (u : Range ℕ) (r : Bool) → ChecksAny nat_range_steps g (record { start = 0; end = n }) t r u → r ≡ some_below f n
some_found f t h n u r d =
    any_from_yields_List f u t r d (YieldsList-from_range 0 n n refl (omega arith)) h
    ∙ some_element f f (range_with_len 0 n) n 0 (length-range_with_len 0 n) (λ i l. ap f (get_or-range_with_len 0 n i 0 l ∙ zero-add i))

-- ---- whether it holds at each of them

every_listed : (f : ℕ → Bool) (n : ℕ) → list_all f (range_with_len 0 n) ≡ every f n
every_listed f n =
    let xs = range_with_len 0 n in
    let l = length-range_with_len 0 n in
    let at = λ (i : ℕ) (h : i < n). get_or-range_with_len 0 n i 0 h ∙ zero-add i in
    same_truth (list_all f xs) (every f n) (λ a. every_all f n (λ i h. ap f (sym (at i h)) ∙ AllPass-from_list_all f xs a i 0 (omega arith)))
    (λ a. list_all-from_AllPass f xs (λ i d h. let k : i < n = omega arith in ap f (get_or_default xs i d 0 h ∙ at i k) ∙ every_at f n i a k))

pub every_found : {F : Type 0} {g : Mut F (ℕ × Unit {0}) Bool} (f : ℕ → Bool) (t : F) → ((k : ℕ) (b : Bool) (q : F) → Called g t (k, tt) b q → (q ≡ t) × (b ≡ f k))
    → (n : ℕ) (u : Range ℕ) (r : Bool) → ChecksAll nat_range_steps g (record { start = 0; end = n }) t r u → r ≡ every f n
every_found f t h n u r d = all_from_yields_List f u t r d (YieldsList-from_range 0 n n refl (omega arith)) h ∙ every_listed f n

-- ---- a loop with no early exit that asks it of each element

some_folded_from : {X : Type 0} (p : X → Bool) (b : Bool) (xs : List X) → fold (λ (m : Bool) (x : X). m || p x) b xs ≡ (b || list_any p xs)
some_folded_from p b [] = sym (or-false b)
some_folded_from {X} p b (x ∷ xs) = some_folded_from p (b || p x) xs ∙ or_assoc b (p x) (list_any p xs)

pub some_folded : {X : Type 0} (p : X → Bool) (xs : List X) → fold (λ (m : Bool) (x : X). m || p x) false xs ≡ list_any p xs
some_folded p xs = some_folded_from p false xs

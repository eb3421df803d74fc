-- The listing of a set's categories, their number by the set bits of each word, and the next category by the zeros below a shifted
-- word's lowest set bit.
use mathlib.Core.Bool.{Bool, true, false, true≢false}
use mathlib.Core.List.Memᴰ
use mathlib.Core.List.{List, [], ◌∷◌, ◌++◌, append_assoc, append-nil, Memᴰ}
use mathlib.Core.Logic.{⊎_elim, ◌⊎◌, inl, inr, ◌↔◌}
use Rattle.std.specs.Prelude.{Option, None, Some}
use mathlib.Core.Path.{◌≡◌, refl, sym, ap, ap₂, ◌∙◌}
use Prim.Native.Nat.{ℕ, zero, suc, ◌+◌, ◌-◌, ◌*◌, ◌/◌, ◌%◌, ◌^◌, ◌≤◌, ◌<◌}
use native.Mathlib.Nat.{zero-lt-suc, le_refl, lt_of_not-le, lt_of_le_of_lt, eq-or-lt_of_le, le_of_suc-le-suc, add-zero, add-suc, add_assoc, add_comm, mod-lt, mod-one, mod-eq_of_lt}
use native.Mathlib.Numerals.{add-one, one-add}
use native.Mathlib.Omega.{arith}
use lib.Count.{ones, ones-le, ones_cat, count_trailing_zeros}
use mir.Syntax.{w64}
use lib.Dec.{eqb}
use lib.ListN.{length, get_or, take, length-append, get_or-append, get_or-eq_default}
use lib.Pow.{pow_pos, mod-pow-add, shr-shr, shr_le}
use lib.Seq.{get_or_at, take_all}
use Rattle.std.specs.List.{sum_by}
use Rattle.std.proofs.lemmas.List.Sums.{sum_by-le, sum_by_more}
use Rattle.std.proofs.lemmas.List.Elements.{All-from_get_or}
use Rattle.std.proofs.lemmas.Nat.Bits.{bit_at-trailing_zeros}
use Rattle.common.specs.Index.{first_from}
use Rattle.label.specs.Words.{bit, has, listed_if, members_below, members_of, next_category_from, word_at}
use Rattle.label.proofs.BitLaws.{bit_high}
use Rattle.common.proofs.IndexLaws.{le_or_lt}
use Rattle.common.proofs.SearchLaws.{Least, first_least, first_none, hit, pass, search_end}
use Rattle.label.proofs.WordLaws.{has_at}

no_bit : (j : ℕ) → bit 0 j ≡ false
no_bit j = bit_high 0 j j (pow_pos j) (le_refl j)

-- no category lies past the last word
pub has_beyond : (ws : List ℕ) (c : ℕ) → length ws * 64 ≤ c → has ws c ≡ false
unfolding has
has_beyond ws c h = ap (λ (w : ℕ). bit w (c % 64)) (get_or-eq_default ws 0 (omega arith)) ∙ no_bit (c % 64)

pub has_within : (ws : List ℕ) (c : ℕ) → has ws c ≡ true → c < length ws * 64
has_within ws c h = ⊎_elim (λ l. absurd (true≢false (sym h ∙ has_beyond ws c l))) (λ l. l) (le_or_lt (length ws * 64) c)

-- ---- the number of categories

abbrev to_n : Bool → ℕ
to_n true = 1
to_n false = 0

length_listed : (p : Bool) (c : ℕ) (l : List ℕ) → length (listed_if p c l) ≡ length l + to_n p
length_listed true c l = length-append l (c ∷ [])
length_listed false c l = sym (add-zero (length l))

ones_digit : (r : ℕ) → r < 2 → ones r ≡ to_n (eqb r 1)
unfolding ones
ones_digit zero h = refl
ones_digit (suc zero) h = refl
ones_digit (suc (suc r)) h = absurd (omega arith)

ones_suc : (w k : ℕ) → ones (w % 2 ^ suc k) ≡ ones (w % 2 ^ k) + to_n (bit w k)
unfolding bit
ones_suc w k =
    ap (λ (e : ℕ). ones (w % 2 ^ e)) (sym (one-add k)) ∙ ap ones (mod-pow-add w 1 k)
    ∙ ones_cat k (w / 2 ^ k % 2) (w % 2 ^ k) (mod-lt w (pow_pos k))
    ∙ ap (λ (n : ℕ). n + ones (w % 2 ^ k)) (ones_digit (w / 2 ^ k % 2) (mod-lt (w / 2 ^ k) (zero-lt-suc 1)))
    ∙ add_comm _ (ones (w % 2 ^ k))

below_word : (ws : List ℕ) (i k : ℕ) → k ≤ 64 → length (members_below ws (i * 64 + k)) ≡ length (members_below ws (i * 64)) + ones (word_at ws i % 2 ^ k)
unfolding members_below ones
below_word ws i zero h =
    ap (λ (c : ℕ). length (members_below ws c)) (add-zero (i * 64)) ∙ sym (add-zero _)
    ∙ ap (λ (n : ℕ). length (members_below ws (i * 64)) + ones n) (sym (mod-one (word_at ws i)))
below_word ws i (suc k) h =
    ap (λ (c : ℕ). length (members_below ws c)) (add-suc (i * 64) k)
    ∙ length_listed (has ws (i * 64 + k)) (i * 64 + k) (members_below ws (i * 64 + k))
    ∙ ap₂ (λ (n : ℕ) (p : Bool). n + to_n p) (below_word ws i k (omega arith)) (has_at ws i k h)
    ∙ add_assoc (length (members_below ws (i * 64))) (ones (word_at ws i % 2 ^ k)) (to_n (bit (word_at ws i) k))
    ∙ ap (λ (n : ℕ). length (members_below ws (i * 64)) + n) (sym (ones_suc (word_at ws i) k))

-- a word more has as many categories more as it has set bits
pub below_more : (ws : List ℕ) (i : ℕ) → word_at ws i < 2 ^ 64
    → length (members_below ws ((i + 1) * 64)) ≡ length (members_below ws (i * 64)) + ones (word_at ws i)
below_more ws i h =
    let e : (i + 1) * 64 ≡ i * 64 + 64 = omega arith in
    ap (λ (c : ℕ). length (members_below ws c)) e ∙ below_word ws i 64 (le_refl 64)
    ∙ ap (λ (n : ℕ). length (members_below ws (i * 64)) + ones n) (mod-eq_of_lt h)

words_counted : (ws : List ℕ) → ((i : ℕ) → word_at ws i < 2 ^ 64) → (i : ℕ) → i ≤ length ws → sum_by ones (take i ws) ≡ length (members_below ws (i * 64))
unfolding members_below
words_counted ws fits zero l = refl
words_counted ws fits (suc i) l =
    ap (λ (n : ℕ). sum_by ones (take n ws)) (sym (add-one i)) ∙ sum_by_more ones ws i 0 l
    ∙ ap (λ (n : ℕ). n + ones (word_at ws i)) (words_counted ws fits i (omega arith)) ∙ sym (below_more ws i (fits i))
    ∙ ap (λ (n : ℕ). length (members_below ws (n * 64))) (add-one i)

-- a set has as many categories as its words have set bits
pub count_words : (ws : List ℕ) → ((i : ℕ) → word_at ws i < 2 ^ 64) → sum_by ones ws ≡ length (members_of ws)
unfolding members_of
count_words ws fits = ap (sum_by ones) (sym (take_all (length ws) ws (le_refl (length ws)))) ∙ words_counted ws fits (length ws) (le_refl (length ws))

pub count_at_most : (ws : List ℕ) → ((i : ℕ) → word_at ws i < 2 ^ 64) → sum_by ones ws ≤ length ws * 64
count_at_most ws fits = sum_by-le ones 64 ws (All-from_get_or (λ w. ones w ≤ 64) ws 0 (λ i l. ones-le 64 (word_at ws i) (fits i)))

-- ---- the lowest set bit of a word

module _ (x : ℕ) (p : 0 < x) (h : x < 2 ^ 64) where
  lowest_set : bit x (count_trailing_zeros 64 x) ≡ true
  unfolding bit
  lowest_set = ap (λ (r : ℕ). eqb r 1) (bit_at-trailing_zeros w64 x p h).1

  none_lower : (j : ℕ) → j < count_trailing_zeros 64 x → bit x j ≡ false
  unfolding bit
  none_lower j l = ap (λ (r : ℕ). eqb r 1) ((bit_at-trailing_zeros w64 x p h).2 j l)

-- ---- the next category, word by word

bit_shr : (w s j : ℕ) → bit w (s + j) ≡ bit (w / 2 ^ s) j
unfolding bit
bit_shr w s j = ap (λ (z : ℕ). eqb (z % 2) 1) (sym (shr-shr w s j))

-- the bits of word i from s on, to its end, are the categories from i * 64 + s on
has_shifted : (ws : List ℕ) (i s j : ℕ) → s + j < 64 → has ws (i * 64 + s + j) ≡ bit (word_at ws i / 2 ^ s) j
has_shifted ws i s j h = ap (has ws) (add_assoc (i * 64) s j) ∙ has_at ws i (s + j) h ∙ bit_shr (word_at ws i) s j

-- the lowest set bit of a shifted word lies in the word
tz_inside : (w s : ℕ) → w < 2 ^ 64 → 0 < w / 2 ^ s → s + count_trailing_zeros 64 (w / 2 ^ s) < 64
tz_inside w s h p =
    lt_of_not-le (λ (g : 64 ≤ s + count_trailing_zeros 64 (w / 2 ^ s)).
    true≢false (sym (lowest_set (w / 2 ^ s) p (lt_of_le_of_lt (shr_le w s) h)) ∙ sym (bit_shr w s _) ∙ bit_high w 64 _ h g))

-- a step of the search by words: word i has a category at or above i * 64 + s, or the search goes on with the next word
pub next_hit : (ws : List ℕ) (i s : ℕ) → i < length ws → word_at ws i < 2 ^ 64 → 0 < word_at ws i / 2 ^ s
    → Some (i * 64 + s + count_trailing_zeros 64 (word_at ws i / 2 ^ s)) ≡ next_category_from ws (i * 64 + s)
unfolding next_category_from
next_hit ws i s l h p =
    let w : ℕ = word_at ws i in
    let small : w / 2 ^ s < 2 ^ 64 = lt_of_le_of_lt (shr_le w s) h in
    let t : s + count_trailing_zeros 64 (w / 2 ^ s) < 64 = tz_inside w s h p in
    sym (hit (has ws) (i * 64 + s) (length ws * 64 - (i * 64 + s)) (count_trailing_zeros 64 (w / 2 ^ s)) (omega arith)
    (λ j k. has_shifted ws i s j (omega arith) ∙ none_lower (w / 2 ^ s) p small j k)
    (has_shifted ws i s _ t ∙ lowest_set (w / 2 ^ s) p small))

pub next_pass : (ws : List ℕ) (i s : ℕ) → i < length ws → s < 64 → word_at ws i / 2 ^ s ≡ 0 → next_category_from ws (i * 64 + s) ≡ next_category_from ws ((i + 1) * 64)
unfolding next_category_from
next_pass ws i s l h e =
    let f : length ws * 64 - (i * 64 + s) ≡ (64 - s) + (length ws * 64 - (i + 1) * 64) = omega arith in
    let g : i * 64 + s + (64 - s) ≡ (i + 1) * 64 = omega arith in
    ap (first_from (has ws) (i * 64 + s)) f
    ∙ pass (has ws) (i * 64 + s) (64 - s) _ (λ j k. has_shifted ws i s j (omega arith) ∙ ap (λ (x : ℕ). bit x j) e ∙ no_bit j)
    ∙ ap (λ (k : ℕ). first_from (has ws) k (length ws * 64 - (i + 1) * 64)) g

pub next_end : (ws : List ℕ) (c : ℕ) → length ws * 64 ≤ c → next_category_from ws c ≡ None
unfolding next_category_from
next_end ws c h = search_end (has ws) c (length ws * 64) h

-- ---- the next category is the least at or above, and there is none exactly if the set has none there

next_least : (ws : List ℕ) (c k : ℕ) → next_category_from ws c ≡ Some k → Least (has ws) c k
unfolding next_category_from
next_least ws c k e = (first_least (has ws) c _ k e).0

pub next_none : (ws : List ℕ) (c : ℕ) → (next_category_from ws c ≡ None) ↔ ((k : ℕ) → c ≤ k → has ws k ≡ false)
unfolding next_category_from
next_none ws c = (λ e k a. ⊎_elim (has_beyond ws k) (λ l. first_none (has ws) c _ e k a (omega arith)) (le_or_lt (length ws * 64) k), λ h. go h (next_category_from ws c) refl)
  where
    go : ((k : ℕ) → c ≤ k → has ws k ≡ false) → (o : Option ℕ) → next_category_from ws c ≡ o → next_category_from ws c ≡ None
    go h None e = e
    go h (Some k) e = let r = next_least ws c k e in absurd (true≢false (sym r.there ∙ h k r.above))

-- the least is what the search answers
pub next_exact : (ws : List ℕ) (c k : ℕ) → (next_category_from ws c ≡ Some k) ↔ Least (has ws) c k
next_exact ws c k = (next_least ws c k, λ l. go l (next_category_from ws c) refl)
  where
    go : Least (has ws) c k → (o : Option ℕ) → next_category_from ws c ≡ o → next_category_from ws c ≡ Some k
    go l None e = absurd (true≢false (sym l.there ∙ (next_none ws c).0 e k l.above))
    go l (Some m) e = e ∙ ap Some (only (next_least ws c m e))
      where
        only : Least (has ws) c m → m ≡ k
        only r = ⊎_elim (λ u. ⊎_elim (λ v. v) (λ v. absurd (true≢false (sym r.there ∙ l.none_before m r.above v))) (eq-or-lt_of_le u))
            (λ u. absurd (true≢false (sym l.there ∙ r.none_before k l.above u))) (le_or_lt m k)

-- ---- the listing is strictly rising and holds exactly the members

below_bound : (ws : List ℕ) (c i : ℕ) → i < length (members_below ws c) → get_or (members_below ws c) i 0 < c
unfolding members_below
below_bound ws zero i h = absurd (omega arith)
below_bound ws (suc c) i h = go (has ws c) h (below_bound ws c i)
  where
    go : (p : Bool) → i < length (listed_if p c (members_below ws c)) → (i < length (members_below ws c) → get_or (members_below ws c) i 0 < c) → get_or (listed_if p c (members_below ws c)) i 0 < suc c
    go false l ih = let g = ih l in omega arith
    go true l ih = ⊎_elim at_end_lem within (le_or_lt (length (members_below ws c)) i)
      where
        at_end_lem : length (members_below ws c) ≤ i → get_or (members_below ws c ++ (c ∷ [])) i 0 < suc c
        at_end_lem u =
            let n = length-append (members_below ws c) (c ∷ []) in
            let e = get_or_at (members_below ws c) c [] 0 i (omega arith) in
            omega arith

        within : i < length (members_below ws c) → get_or (members_below ws c ++ (c ∷ [])) i 0 < suc c
        within u = let g = ih u in let e = get_or-append (members_below ws c) (c ∷ []) 0 i u in omega arith

below_rising : (ws : List ℕ) (c i j : ℕ) → i < j → j < length (members_below ws c) → get_or (members_below ws c) i 0 < get_or (members_below ws c) j 0
unfolding members_below
below_rising ws zero i j l h = absurd (omega arith)
below_rising ws (suc c) i j l h = go (has ws c) h (below_rising ws c i j l)
  where
    go : (p : Bool) → j < length (listed_if p c (members_below ws c)) → (j < length (members_below ws c) → get_or (members_below ws c) i 0 < get_or (members_below ws c) j 0)
        → get_or (listed_if p c (members_below ws c)) i 0 < get_or (listed_if p c (members_below ws c)) j 0
    go false u ih = ih u
    go true u ih = ⊎_elim at_end_lem within (le_or_lt (length (members_below ws c)) j)
      where
        at_end_lem : length (members_below ws c) ≤ j → get_or (members_below ws c ++ (c ∷ [])) i 0 < get_or (members_below ws c ++ (c ∷ [])) j 0
        at_end_lem v =
            let n = length-append (members_below ws c) (c ∷ []) in
            let e = get_or_at (members_below ws c) c [] 0 j (omega arith) in
            let f = get_or-append (members_below ws c) (c ∷ []) 0 i (omega arith) in
            let g = below_bound ws c i (omega arith) in
            omega arith

        within : j < length (members_below ws c) → get_or (members_below ws c ++ (c ∷ [])) i 0 < get_or (members_below ws c ++ (c ∷ [])) j 0
        within v =
            let g = ih v in
            let e = get_or-append (members_below ws c) (c ∷ []) 0 j v in
            let f = get_or-append (members_below ws c) (c ∷ []) 0 i (omega arith) in
            omega arith

pub members_rising : (ws : List ℕ) (i j : ℕ) → i < j → j < length (members_of ws) → get_or (members_of ws) i 0 < get_or (members_of ws) j 0
unfolding members_of
members_rising ws i j l h = below_rising ws (length ws * 64) i j l h

listed_has : (ws : List ℕ) (c k : ℕ) → Memᴰ k (members_below ws c) → has ws k ≡ true
unfolding members_below
listed_has ws zero k m = absurd (Memᴰ.not-nil m)
listed_has ws (suc c) k m = go (has ws c) refl m (listed_has ws c k)
  where
    go : (p : Bool) → has ws c ≡ p → Memᴰ k (listed_if p c (members_below ws c)) → (Memᴰ k (members_below ws c) → has ws k ≡ true) → has ws k ≡ true
    go true h m ih = ⊎_elim ih (λ u. ap (has ws) (Memᴰ.eq_of_singleton u) ∙ h) (Memᴰ.append_cases (members_below ws c) m)
    go false h m ih = ih m

has_listed : (ws : List ℕ) (c k : ℕ) → k < c → has ws k ≡ true → Memᴰ k (members_below ws c)
unfolding members_below
has_listed ws zero k l h = absurd (omega arith)
has_listed ws (suc c) k l h = go (has ws c) refl (λ u. has_listed ws c k u h) (eq-or-lt_of_le (le_of_suc-le-suc l))
  where
    go : (p : Bool) → has ws c ≡ p → (k < c → Memᴰ k (members_below ws c)) → (k ≡ c) ⊎ (k < c) → Memᴰ k (listed_if p c (members_below ws c))
    go true e ih (inl u) = Memᴰ.append_right (members_below ws c) (Memᴰ.head u)
    go true e ih (inr u) = Memᴰ.append_left (c ∷ []) (ih u)
    go false e ih (inl u) = absurd (true≢false (sym h ∙ ap (has ws) u ∙ e))
    go false e ih (inr u) = ih u

pub members_exact : (ws : List ℕ) (k : ℕ) → Memᴰ k (members_of ws) ↔ (has ws k ≡ true)
unfolding members_of
members_exact ws k = (listed_has ws (length ws * 64) k, λ h. has_listed ws (length ws * 64) k (has_within ws k h) h)

-- ---- a listing by one search after another

pub next_within : (ws : List ℕ) (c k : ℕ) → next_category_from ws c ≡ Some k → (c ≤ k) × (k < length ws * 64)
next_within ws c k e = let l = next_least ws c k e in (l.above, has_within ws k l.there)

below_skip : (ws : List ℕ) (c d : ℕ) → c ≤ d → ((j : ℕ) → c ≤ j → j < d → has ws j ≡ false) → members_below ws d ≡ members_below ws c
unfolding members_below
below_skip ws c zero l h = let e : c ≡ 0 = omega arith in rw e
below_skip ws c (suc d) l h =
    ⊎_elim (λ e. ap (members_below ws) (sym e)) (λ u. rw (h d (omega arith) (omega arith)) (below_skip ws c d (omega arith) (λ j a b. h j a (omega arith)))) (eq-or-lt_of_le l)

-- the category that is found is listed next
pub next_listed : (ws : List ℕ) (c k : ℕ) → next_category_from ws c ≡ Some k → members_below ws (k + 1) ≡ members_below ws c ++ (k ∷ [])
unfolding members_below
next_listed ws c k e = let l = next_least ws c k e in rw (add-one, l.there, below_skip ws c k l.above l.none_before)

-- where none is found, all are listed
pub last_listed : (ws : List ℕ) (c d : ℕ) → next_category_from ws c ≡ None → c ≤ d → members_below ws d ≡ members_below ws c
last_listed ws c d e l = below_skip ws c d l (λ j a b. (next_none ws c).0 e j a)

pub all_listed : (ws : List ℕ) (c : ℕ) → c ≡ length ws * 64 → members_below ws c ≡ members_of ws
unfolding members_of
all_listed ws c e = ap (members_below ws) e

-- what is listed first stays in front
below_front : (ws : List ℕ) (c d : ℕ) → c ≤ d → (rest : List ℕ) × (members_below ws d ≡ members_below ws c ++ rest)
unfolding members_below
below_front ws c zero l = let e : c ≡ 0 = omega arith in ([], rw e)
below_front ws c (suc d) l = ⊎_elim (λ e. ([], rw e (sym (append-nil (members_below ws (suc d)))))) (λ u. go (has ws d) (below_front ws c d (omega arith))) (eq-or-lt_of_le l)
  where
    go : (p : Bool) → (rest : List ℕ) × (members_below ws d ≡ members_below ws c ++ rest) → (rest : List ℕ) × (listed_if p d (members_below ws d) ≡ members_below ws c ++ rest)
    go true r = (r.0 ++ (d ∷ []), rw r.1 (append_assoc (members_below ws c) r.0 (d ∷ [])))
    go false r = r

pub members_front : (ws : List ℕ) (c : ℕ) → c ≤ length ws * 64 → (rest : List ℕ) × (members_of ws ≡ members_below ws c ++ rest)
unfolding members_of
members_front ws c l = below_front ws c (length ws * 64) l

-- The laws of `index_of`, `split`, `put_at`, `same_bytes` and of appending, and what a loop over the index needs of them.
use mathlib.Core.Bool.{Bool, true, false, ◌&&◌, cond, true≢false}
use mathlib.Core.List.{List, [], ◌∷◌, ◌++◌, append_assoc, append-nil}
use mathlib.Core.Path.{◌≡◌, refl, sym, ap, ◌∙◌}
use Prim.Native.Nat.{ℕ, zero, suc, ◌+◌, ◌≤◌, ◌<◌}
use native.Mathlib.Nat.{add-zero}
use native.Mathlib.Numerals.{add-one}
use native.Mathlib.Omega.{arith}
use lib.Dec.{eqb, leb, ltb}
use lib.ListN.{drop, get_or, length, set, take, drop_of_length-le, length-append, length-take, take-append-drop}
use lib.Seq.{append_snoc, drop-append-add, drop-append_seam, drop_at, drop-cons, drop-drop, drop-length, length-paste, length-take-le, paste, set_split, take-append_seam, take_at, take-length, take-set-le}
use borrow.Author.Tests.{eq-eqb, eqb-true, le-leb, leb-true, ltb-false, ne_eqb}
use lib.Pointwise.{pointwise}
use Rattle.std.specs.List.{onto_first, position, position_or_len, slice_split}
use Rattle.std.specs.Prelude.{Option, None, Some}
use Rattle.std.specs.Option.{unwrap_or}
use Rattle.std.proofs.lemmas.List.Recursion.{is_position_or_len}
use Rattle.octets.specs.Bytes.{Appended, FirstIndex, appended_of, index_of, on_first, past_of, put_at, same_bytes, split}
use Rattle.octets.specs.Internal.Put.{Put}

-- ---- index_of

module _ (b : ℕ) where
  index_first : (x : ℕ) (xs : List ℕ) → x ≡ b → index_of b (x ∷ xs) ≡ 0
  unfolding index_of
  index_first x xs e = rw (eq-eqb x b e)

  index_later : (x : ℕ) (xs : List ℕ) → (x ≡ b → ⊥) → index_of b (x ∷ xs) ≡ suc (index_of b xs)
  unfolding index_of
  index_later x xs e = rw (ne_eqb x b e)

  index_none : index_of b [] ≡ 0
  unfolding index_of
  index_none = refl

  pub index_le : (xs : List ℕ) → index_of b xs ≤ length xs
  unfolding index_of
  index_le [] = omega arith
  index_le (x ∷ xs) = pick (eqb x b) (index_le xs)
    where
      pick : (t : Bool) → index_of b xs ≤ length xs → cond t zero (suc (index_of b xs)) ≤ suc (length xs)
      pick true h = omega arith
      pick false h = omega arith

  -- behind a list with no b in it
  pub index_append : (xs ys : List ℕ) → index_of b xs ≡ length xs → index_of b (xs ++ ys) ≡ length xs + index_of b ys
  unfolding index_of
  index_append [] ys e = omega arith
  index_append (x ∷ xs) ys e = pick (eqb x b) e (index_append xs ys)
    where
      pick : (t : Bool) → cond t zero (suc (index_of b xs)) ≡ suc (length xs) → (index_of b xs ≡ length xs → index_of b (xs ++ ys) ≡ length xs + index_of b ys)
          → cond t zero (suc (index_of b (xs ++ ys))) ≡ suc (length xs) + index_of b ys
      pick true f ih = absurd (omega arith)
      pick false f ih = let l = ih (omega arith) in omega arith

  -- a loop that has found no b so far: it goes on, or ends
  pub index_pass : (xs : List ℕ) (i : ℕ) → i < length xs → (get_or xs i 0 ≡ b → ⊥) → i + index_of b (drop i xs) ≡ i + 1 + index_of b (drop (i + 1) xs)
  index_pass xs i h e = rw (add-one, drop-cons xs i 0 h, index_later (get_or xs i 0) (drop (suc i) xs) e) (omega arith)

  pub index_end : (xs : List ℕ) (i : ℕ) → length xs ≤ i → i + index_of b (drop i xs) ≡ i
  index_end xs i h = rw (drop_of_length-le xs h, index_none) (add-zero i)

-- what `position` finds
index_is : (b : ℕ) (xs : List ℕ) → index_of b xs ≡ position_or_len (λ x. eqb x b) xs
unfolding index_of
index_is b xs = is_position_or_len (index_of b) (λ x. eqb x b) refl (λ x xs. ap (cond (eqb x b) 0) (omega arith)) xs

first_or_length : (p n : ℕ) (t : Bool) → ltb p n ≡ t → p ≤ n → unwrap_or (cond t (Some p) None) n ≡ p
first_or_length p n true e h = refl
first_or_length p n false e h = let l = ltb-false p n e in omega arith

pub index_found : (b : ℕ) (xs : List ℕ) {o : Option ℕ} {r : ℕ} → o ≡ position (λ x. eqb x b) xs → r ≡ unwrap_or o (length xs) → FirstIndex b xs r
index_found b xs {o} {r} e f =
    let p : ℕ = position_or_len (λ x. eqb x b) xs in
    let i = index_is b xs in
    let h = index_le b xs in
    let g : r ≡ index_of b xs =
    f ∙ ap (λ (q : Option ℕ). unwrap_or q (length xs)) e ∙ first_or_length p (length xs) (ltb p (length xs)) refl (omega arith) ∙ sym i in
    record { index = g; within = omega arith }

-- ---- split

-- the fields behind the first, from the b that ends it
abbrev pub fields_from : ℕ → List ℕ → List (List ℕ)
fields_from b [] = []
fields_from b (x ∷ xs) = split b xs

-- the first field ends at the first b
pub split_first : (b : ℕ) (xs : List ℕ) → split b xs ≡ take (index_of b xs) xs ∷ fields_from b (drop (index_of b xs) xs)
unfolding split index_of
split_first b [] = refl
split_first b (x ∷ xs) = pick (eqb x b) (split_first b xs)
  where
    pick : (t : Bool) → split b xs ≡ take (index_of b xs) xs ∷ fields_from b (drop (index_of b xs) xs)
        → cond t ([] ∷ split b xs) (on_first x (split b xs)) ≡ take (cond t zero (suc (index_of b xs))) (x ∷ xs) ∷ fields_from b (drop (cond t zero (suc (index_of b xs))) (x ∷ xs))
    pick true ih = refl
    pick false ih = ap (on_first x) ih

-- they are the parts that the library's `split` gives
pub split_is : (b : ℕ) (xs : List ℕ) → slice_split (λ x. eqb x b) xs ≡ split b xs
unfolding split
split_is b [] = refl
split_is b (x ∷ xs) = pick (eqb x b) (split_is b xs)
  where
    pick : (t : Bool) → slice_split (λ y. eqb y b) xs ≡ split b xs
        → cond t ([] ∷ slice_split (λ y. eqb y b) xs) (onto_first x (slice_split (λ y. eqb y b) xs)) ≡ cond t ([] ∷ split b xs) (on_first x (split b xs))
    pick true e = ap (λ (l : List (List ℕ)). [] ∷ l) e
    pick false e = ap (onto_first x) e ∙ rw (split_first b xs)

-- a loop over the fields, the next of which begins at index at: a b stands before each, as if one stood before the first
pub fields_next : (b : ℕ) (xs : List ℕ) (at : ℕ) → at ≤ length xs
    → fields_from b (drop at (b ∷ xs)) ≡ take (index_of b (drop at xs)) (drop at xs) ∷ fields_from b (drop (at + index_of b (drop at xs) + 1) (b ∷ xs))
fields_next b xs at h =
    rw (drop-cons (b ∷ xs) at 0 (omega arith), split_first b (drop at xs), drop-drop (index_of b (drop at xs)) at xs, add-one (at + index_of b (drop at xs)))

-- ---- bytes that do not stand in a list

-- b does not stand in xs
abbrev pub Without : ℕ → List ℕ → Type 0
Without b xs = (k : ℕ) → k < length xs → get_or xs k 0 ≡ b → ⊥

module _ (b : ℕ) where
  pub without_cons : (x : ℕ) (xs : List ℕ) → (x ≡ b → ⊥) → Without b xs → Without b (x ∷ xs)
  without_cons x xs h w zero l e = h e
  without_cons x xs h w (suc k) l e = w k (omega arith) e

  pub without_append : (xs ys : List ℕ) → Without b xs → Without b ys → Without b (xs ++ ys)
  without_append [] ys p q = q
  without_append (x ∷ xs) ys p q = without_cons x (xs ++ ys) (p 0 (omega arith)) (without_append xs ys (λ k l. p (suc k) (omega arith)) q)

  pub index_without : (xs : List ℕ) → Without b xs → index_of b xs ≡ length xs
  unfolding index_of
  index_without [] w = refl
  index_without (x ∷ xs) w = rw (ne_eqb x b (w 0 (omega arith))) (ap suc (index_without xs (λ k l. w (suc k) (omega arith))))

  -- the first b behind such a list
  pub index_behind : (xs ys : List ℕ) → Without b xs → index_of b (xs ++ b ∷ ys) ≡ length xs
  index_behind xs ys w = index_append b xs (b ∷ ys) (index_without xs w) ∙ rw (index_first b b ys refl) (add-zero (length xs))

  -- the fields of such a list, and of one with a b behind it
  pub split_without : (xs : List ℕ) → Without b xs → split b xs ≡ xs ∷ []
  split_without xs w = split_first b xs ∙ rw (index_without xs w, take-length xs, drop-length xs)

  pub split_behind : (xs ys : List ℕ) → Without b xs → split b (xs ++ b ∷ ys) ≡ xs ∷ split b ys
  split_behind xs ys w = split_first b (xs ++ b ∷ ys) ∙ rw (index_behind xs ys w, take-append_seam xs (b ∷ ys), drop-append_seam xs (b ∷ ys))

-- ---- put_at

module _ (out : List ℕ) (at : ℕ) where
  pub put_nil : put_at out at [] ≡ out
  unfolding put_at
  put_nil = rw (append-nil, add-zero, take-append-drop)

  pub nothing_put : Put out at [] at out
  nothing_put = record { past = sym (add-zero at); written = sym put_nil }

  pub put_all : (xs : List ℕ) → paste out at xs (length xs) ≡ put_at out at xs
  unfolding put_at
  put_all xs = rw take-length

  pub put_length : (bs : List ℕ) → at + length bs ≤ length out → length (put_at out at bs) ≡ length out
  put_length bs h = rw (← put_all bs) (length-paste out at bs (length bs) h (omega arith))

  pub put_one : (b : ℕ) → at < length out → put_at out at (b ∷ []) ≡ set out at b
  unfolding put_at
  put_one b h = rw (set_split out at b h, append_snoc, add-one)

  pub one_put : (b : ℕ) → at < length out → Put out at (b ∷ []) (at + 1) (set out at b)
  one_put b h = record { past = refl; written = sym (put_one b h) }

  -- bytes that are put behind others
  pub put_put : (cs bs : List ℕ) → at + length cs ≤ length out → put_at (put_at out at cs) (at + length cs) bs ≡ put_at out at (cs ++ bs)
  unfolding put_at
  put_put cs bs h =
      let p : List ℕ = take at out ++ cs in
      let e : length p ≡ at + length cs = simp (length-append) (omega (arith, length-take-le at out (omega arith))) in
      let f : take (at + length cs) (p ++ drop (at + length cs) out) ≡ p = take_at p (drop (at + length cs) out) (at + length cs) e in
      let g : drop (at + length cs + length bs) (p ++ drop (at + length cs) out) ≡ drop (at + length cs + length bs) out =
      ap (λ (n : ℕ). drop (n + length bs) (p ++ drop (at + length cs) out)) (sym e) ∙ drop-append-add p (drop (at + length cs) out) (length bs)
      ∙ drop-drop (length bs) (at + length cs) out in
      ap (λ (l : List ℕ). l ++ bs ++ drop (at + length cs + length bs) (p ++ drop (at + length cs) out)) f
      ∙ ap (λ (l : List ℕ). p ++ bs ++ l) g
      ∙ rest
    where
      rest : take at out ++ cs ++ bs ++ drop (at + length cs + length bs) out ≡ take at out ++ (cs ++ bs) ++ drop (at + length (cs ++ bs)) out
      rest =
          let k : at + length (cs ++ bs) ≡ at + length cs + length bs = simp length-append (omega arith) in
          rw (k, append_assoc (take at out) cs bs)

  pub puts : {cs bs : List ℕ} {r s : ℕ} {mid after : List ℕ} → at + length cs ≤ length out → Put out at cs r mid → Put mid r bs s after → Put out at (cs ++ bs) s after
  puts {cs} {bs} {r} {s} {mid} {after} h e f =
      let l = length-append cs bs in
      let p = e.past in
      let q = f.past in
      record { past = omega arith; written = f.written ∙ rw (e.written, e.past) (put_put cs bs h) }

  -- the last byte put first
  pub put_last : (bs : List ℕ) (b : ℕ) → at + length bs < length out → put_at out at (bs ++ (b ∷ [])) ≡ put_at (set out (at + length bs) b) at bs
  unfolding put_at
  put_last bs b h =
      let k : ℕ = at + length bs in
      let e : take at (set out k b) ≡ take at out = take-set-le at out k b (omega arith) in
      let f : drop k (set out k b) ≡ b ∷ drop (suc k) out =
      rw (set_split out k b h) (drop_at (take k out) (b ∷ drop (suc k) out) k (length-take-le k out (omega arith))) in
      let g : at + length (bs ++ (b ∷ [])) ≡ suc k = simp length-append (omega arith) in
      rw (e, f, g, ← append_assoc (take at out) bs (b ∷ [])) (append_snoc (take at out ++ bs) b (drop (suc k) out))

-- ---- same_bytes

-- it is the library's comparison
pub same_pointwise : (xs ys : List ℕ) → pointwise eqb xs ys ≡ same_bytes xs ys
unfolding same_bytes
same_pointwise [] [] = refl
same_pointwise [] (y ∷ ys) = refl
same_pointwise (x ∷ xs) [] = refl
same_pointwise (x ∷ xs) (y ∷ ys) = ap (λ (t : Bool). eqb x y && t) (same_pointwise xs ys)

same_first : (x y : ℕ) (xs ys : List ℕ) → x ≡ y → same_bytes (x ∷ xs) (y ∷ ys) ≡ same_bytes xs ys
unfolding same_bytes
same_first x y xs ys e = rw (eq-eqb x y e)

differ_first : (x y : ℕ) (xs ys : List ℕ) → (x ≡ y → ⊥) → same_bytes (x ∷ xs) (y ∷ ys) ≡ false
unfolding same_bytes
differ_first x y xs ys e = rw (ne_eqb x y e)

-- lists that are the same have the same first byte
same_cons : (x y : ℕ) (xs ys : List ℕ) → same_bytes (x ∷ xs) (y ∷ ys) ≡ true → (x ≡ y) × (same_bytes xs ys ≡ true)
unfolding same_bytes
same_cons x y xs ys = pick (eqb x y) refl
  where
    pick : (t : Bool) → eqb x y ≡ t → (t && same_bytes xs ys) ≡ true → (x ≡ y) × (same_bytes xs ys ≡ true)
    pick true d e = (eqb-true x y d, e)
    pick false d e = absurd (true≢false (sym e))

-- it says what it should
pub same_is : (xs ys : List ℕ) → same_bytes xs ys ≡ true → xs ≡ ys
unfolding same_bytes
same_is [] [] e = refl
same_is [] (y ∷ ys) e = absurd (true≢false (sym e))
same_is (x ∷ xs) [] e = absurd (true≢false (sym e))
same_is (x ∷ xs) (y ∷ ys) e =
    let h = same_cons x y xs ys e in
    let i = h.0 in
    let t : xs ≡ ys = same_is xs ys h.1 in cc

pub same_length : (xs ys : List ℕ) → same_bytes xs ys ≡ true → length xs ≡ length ys
same_length xs ys e = ap length (same_is xs ys e)

pub same_self : (xs : List ℕ) → same_bytes xs xs ≡ true
unfolding same_bytes
same_self [] = refl
same_self (x ∷ xs) = rw (eq-eqb x x refl) (same_self xs)

module _ (xs ys : List ℕ) where
  -- a loop that has found no difference so far: it goes on, stops at one, or ends
  pub same_pass : (i : ℕ) → i < length xs → i < length ys → get_or xs i 0 ≡ get_or ys i 0 → same_bytes (drop i xs) (drop i ys) ≡ same_bytes (drop (i + 1) xs) (drop (i + 1) ys)
  same_pass i h k e = rw (add-one, drop-cons xs i 0 h, drop-cons ys i 0 k) (same_first (get_or xs i 0) (get_or ys i 0) (drop (suc i) xs) (drop (suc i) ys) e)

  pub same_stop : (i : ℕ) → i < length xs → i < length ys → (get_or xs i 0 ≡ get_or ys i 0 → ⊥) → same_bytes (drop i xs) (drop i ys) ≡ false
  same_stop i h k e = rw (drop-cons xs i 0 h, drop-cons ys i 0 k) (differ_first (get_or xs i 0) (get_or ys i 0) (drop (suc i) xs) (drop (suc i) ys) e)

  pub same_end : (i : ℕ) → length xs ≤ i → length ys ≤ i → same_bytes (drop i xs) (drop i ys) ≡ true
  unfolding same_bytes
  same_end i h k = rw (drop_of_length-le xs h, drop_of_length-le ys k)

  pub lengths_differ : (length xs ≡ length ys → ⊥) → same_bytes xs ys ≡ false
  lengths_differ h = pick (same_bytes xs ys) refl
    where
      pick : (t : Bool) → same_bytes xs ys ≡ t → t ≡ false
      pick true e = absurd (h (same_length xs ys e))
      pick false e = refl

-- ---- appending

-- what an append has found where its two ways part: bs has k bytes, and b says whether they fit
pub record Tested (out : List ℕ) (at : ℕ) (bs : List ℕ) (k : ℕ) (b : Bool) : Type 0 where
  pub count : k ≡ length bs
  pub room : b ≡ leb (at + k) (length out)

module _ {out : List ℕ} {at : ℕ} {bs : List ℕ} {k : ℕ} {b : Bool} (s : Tested out at bs k b) where
  test : leb (at + length bs) (length out) ≡ b
  test = rw (← s.count) (sym s.room)

  pub room_for : b ≡ true → at + length bs ≤ length out
  room_for t = leb-true (at + length bs) (length out) (test ∙ t)

  -- bytes that were put
  pub appended : {r : ℕ} {after : List ℕ} → b ≡ true → Put out at bs r after → Appended out at bs r after
  unfolding past_of appended_of
  appended {r} {after} t e =
      let h = room_for t in
      let f = test ∙ t in
      let g : length after ≡ length out = rw e.written (put_length out at bs h) in
      let p = e.past in record { past = rw f p; written = rw f e.written; same_length = g; within = omega arith; counted = length-take r after }

  -- bytes that do not fit
  pub left_out : b ≡ false → Appended out at bs at out
  unfolding past_of appended_of
  left_out t = let f = test ∙ t in record { past = rw f; written = rw f; same_length = refl; within = omega arith; counted = length-take at out }

-- where there is room, an append puts its bytes
pub appended_put : {out : List ℕ} {at : ℕ} {bs : List ℕ} {r : ℕ} {after : List ℕ} → at + length bs ≤ length out → Appended out at bs r after → Put out at bs r after
unfolding past_of appended_of
appended_put {out} {at} {bs} room a =
    let f = le-leb (at + length bs) (length out) room in record { past = rw f at a.past; written = rw f at a.written }

-- and bytes that are put are appended
pub put_appended : {out : List ℕ} {at : ℕ} {bs : List ℕ} {r : ℕ} {after : List ℕ} → at + length bs ≤ length out → Put out at bs r after → Appended out at bs r after
put_appended {out} {at} {bs} room p = appended (record { count = refl; room = sym (le-leb (at + length bs) (length out) room) }) refl p

pub put_same_length : {out : List ℕ} {at : ℕ} {bs : List ℕ} {r : ℕ} {after : List ℕ} → at + length bs ≤ length out → Put out at bs r after → length after ≡ length out
put_same_length {out} {at} {bs} room p = rw p.written (put_length out at bs room)

-- bytes that are put behind others
pub then_put : {out : List ℕ} {at : ℕ} {cs bs : List ℕ} {r s : ℕ} {mid after : List ℕ}
    → r ≤ length out → Put out at cs r mid → Put mid r bs s after → Put out at (cs ++ bs) s after
then_put {out} {at} h p q = let e = p.past in puts out at (omega arith) p q

pub then_appended : {out : List ℕ} {at : ℕ} {cs bs : List ℕ} {r s : ℕ} {mid after : List ℕ}
    → r + length bs ≤ length out → Put out at cs r mid → Appended mid r bs s after → Put out at (cs ++ bs) s after
then_appended {out} {at} h p q =
    let e = p.past in
    let l = put_same_length (omega arith) p in then_put (omega arith) p (appended_put (omega arith) q)

-- bytes in two parts, for which there is room
pub first_fits : (at size : ℕ) (cs bs : List ℕ) → at + length (cs ++ bs) ≤ size → at + length cs ≤ size
first_fits at size cs bs room = let l = length-append cs bs in omega arith

module _ {out : List ℕ} {at : ℕ} {cs : List ℕ} {r : ℕ} {mid : List ℕ} (p : Put out at cs r mid) (bs : List ℕ) (room : at + length (cs ++ bs) ≤ length out) where
  pub second_fits : r + length bs ≤ length mid
  second_fits =
      let l = length-append cs bs in
      let e = p.past in
      let k = put_same_length (first_fits at (length out) cs bs room) p in omega arith

  pub both_put : {s : ℕ} {after : List ℕ} → Put mid r bs s after → Put out at (cs ++ bs) s after
  both_put q = puts out at (first_fits at (length out) cs bs room) p q

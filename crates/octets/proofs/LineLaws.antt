-- The laws of lines: the first of them and the rest, and where they begin.
use mathlib.Core.Bool.{Bool, true, false, cond}
use mathlib.Core.List.{List, [], ◌∷◌, flatten}
use mathlib.Core.Path.{◌≡◌, refl, sym, ap, ap₂, ◌∙◌}
use Prim.Native.Nat.{ℕ, zero, suc, ◌+◌, ◌-◌, ◌≤◌, ◌<◌, min}
use native.Mathlib.Nat.{add-zero}
use native.Mathlib.Numerals.{add-one}
use native.Mathlib.Omega.{arith}
use lib.Dec.{eqb}
use lib.ListN.{drop, get_or, length, take, drop_of_length-le, length-drop, take-append-drop}
use lib.Seq.{drop-drop, get_or-drop, length-take-le}
use Rattle.octets.specs.Bytes.{index_of, lf}
use Rattle.octets.specs.Lines.{bytes_before, line_at, lines_of, start_first}
use Rattle.octets.specs.Internal.Lines.{first_length, line_end}
use Rattle.octets.proofs.ByteLaws.{index_append}

-- ---- the first line, and the rest

-- where n bytes from index i on have no LF, the first one is later
pub lf_later : (xs : List ℕ) (i n : ℕ) {m : ℕ} → m ≡ n → i + n ≤ length xs → index_of lf (take m (drop i xs)) ≡ length (take m (drop i xs)) → index_of lf xs ≡ i + index_of lf (drop i xs)
    → index_of lf xs ≡ i + n + index_of lf (drop (i + n) xs)
lf_later xs i n r h chunk e =
    let d = drop i xs in
    let l = length-drop i xs in
    let none : index_of lf (take n d) ≡ length (take n d) = rw r at chunk in
    let m : length (take n d) ≡ n = length-take-le n d (omega arith) in
    let s : index_of lf d ≡ n + index_of lf (drop (i + n) xs) =
    ap (index_of lf) (sym (take-append-drop n d)) ∙ index_append lf (take n d) (drop n d) none ∙ ap₂ ◌+◌ m (ap (index_of lf) (drop-drop n i xs)) in
    omega arith

first_length_none : first_length [] ≡ 0
unfolding first_length index_of
first_length_none = refl

first_length_next : (b : ℕ) (bs : List ℕ) → first_length (b ∷ bs) ≡ cond (eqb b lf) 1 (suc (first_length bs))
unfolding first_length index_of
first_length_next b bs = pick (eqb b lf)
  where
    pick : (t : Bool) → min (cond t zero (suc (index_of lf bs)) + 1) (suc (length bs)) ≡ cond t 1 (suc (min (index_of lf bs + 1) (length bs)))
    pick true = omega arith
    pick false = omega arith

first_length_within : (bytes : List ℕ) → first_length bytes ≤ length bytes
unfolding first_length
first_length_within bytes = omega arith

first_length_some : (bytes : List ℕ) → 0 < length bytes → 0 < first_length bytes
unfolding first_length
first_length_some bytes h = omega arith

lines_none : lines_of [] ≡ []
unfolding lines_of
lines_none = refl

-- b before the rest of the first line, or before the other lines
begun : (b : ℕ) (bs : List ℕ) (t : Bool) → start_first b (lines_of bs) ≡ (b ∷ take (first_length bs) bs) ∷ lines_of (drop (first_length bs) bs)
    → cond t ((b ∷ []) ∷ lines_of bs) (start_first b (lines_of bs))
    ≡ take (cond t 1 (suc (first_length bs))) (b ∷ bs) ∷ lines_of (drop (cond t 1 (suc (first_length bs))) (b ∷ bs))
begun b bs true e = refl
begun b bs false e = e

-- the first line is what stands up to the first LF and with it, or all bytes where there is no LF; then come the lines of the rest
pub lines_first : (bytes : List ℕ) → 0 < length bytes → lines_of bytes ≡ take (first_length bytes) bytes ∷ lines_of (drop (first_length bytes) bytes)
unfolding lines_of
lines_first [] h = absurd (omega arith)
lines_first (b ∷ []) h = rw (first_length_next b []) (begun b [] (eqb b lf) (rw first_length_none refl))
lines_first (b ∷ c ∷ cs) h = rw (first_length_next b (c ∷ cs)) (begun b (c ∷ cs) (eqb b lf) (ap (start_first b) (lines_first (c ∷ cs) (omega arith))))

-- the lines put together are the bytes
pub lines_whole : (bytes : List ℕ) → flatten (lines_of bytes) ≡ bytes
unfolding lines_of flatten
lines_whole [] = refl
lines_whole (b ∷ bs) = pick (eqb b lf) (lines_of bs) (lines_whole bs)
  where
    pick : (t : Bool) (ls : List (List ℕ)) → flatten ls ≡ bs → flatten (cond t ((b ∷ []) ∷ ls) (start_first b ls)) ≡ b ∷ bs
    pick true ls e = ap (λ (l : List ℕ). b ∷ l) e
    pick false [] e = ap (λ (l : List ℕ). b ∷ l) e
    pick false (l ∷ ls) e = ap (λ (l : List ℕ). b ∷ l) e

-- ---- where lines begin

pub before_next : (ls : List (List ℕ)) (k : ℕ) → k < length ls → bytes_before ls (k + 1) ≡ bytes_before ls k + length (line_at ls k)
unfolding bytes_before
before_next ls k h = rw add-one (go ls k h)
  where
    go : (ls : List (List ℕ)) (k : ℕ) → k < length ls → bytes_before ls (suc k) ≡ bytes_before ls k + length (line_at ls k)
    go [] k h = absurd (omega arith)
    go (l ∷ ls) zero h = omega arith
    go (l ∷ ls) (suc k) h = let ih = go ls k (omega arith) in omega arith

pub before_take : (ls : List (List ℕ)) (m k : ℕ) → k ≤ m → bytes_before (take m ls) k ≡ bytes_before ls k
unfolding bytes_before
before_take ls m zero h = refl
before_take ls zero (suc k) h = absurd (omega arith)
before_take [] (suc m) (suc k) h = refl
before_take (l ∷ ls) (suc m) (suc k) h = ap (λ (n : ℕ). length l + n) (before_take ls m k (omega arith))

-- the lines from line k on are the lines of the bytes from its start on
pub lines_from : (k : ℕ) (bytes : List ℕ) → drop k (lines_of bytes) ≡ lines_of (drop (bytes_before (lines_of bytes) k) bytes)
unfolding bytes_before
lines_from zero bytes = refl
lines_from (suc k) [] = rw lines_none (sym lines_none)
lines_from (suc k) (b ∷ bs) =
    let n = first_length (b ∷ bs) in
    let rest = drop n (b ∷ bs) in
    rw (lines_first (b ∷ bs) (omega arith), length-take-le n (b ∷ bs) (first_length_within (b ∷ bs)))
    (lines_from k rest ∙ ap lines_of (drop-drop (bytes_before (lines_of rest) k) n (b ∷ bs)))

-- line k stands from index at up to index next, where the next line begins
pub record LineHere (bytes : List ℕ) (k at next : ℕ) : Type 0 where
  pub below : k < length (lines_of bytes)
  pub line : line_at (lines_of bytes) k ≡ take (next - at) (drop at bytes)
  pub begins_next : next ≡ bytes_before (lines_of bytes) (k + 1)
  pub further : at < next
  pub within : next ≤ length bytes

-- where line k begins there is that line, or the bytes and the lines are at their end
module _ (bytes : List ℕ) (k at : ℕ) (begins : at ≡ bytes_before (lines_of bytes) k) where
  there : drop k (lines_of bytes) ≡ lines_of (drop at bytes)
  there = rw begins (lines_from k bytes)

  pub lines_end : length bytes ≤ at → length (lines_of bytes) ≤ k
  lines_end h =
      let e : drop k (lines_of bytes) ≡ [] = there ∙ ap lines_of (drop_of_length-le bytes h) ∙ lines_none in
      omega (arith, length-drop k (lines_of bytes), ap length e)

  pub line_here : (next : ℕ) → at < length bytes → next ≡ line_end bytes at → LineHere bytes k at next
  line_here next h end =
      let ls = lines_of bytes in
      let d = drop at bytes in
      let n = first_length d in
      let l = length-drop at bytes in
      let s = first_length_some d (omega arith) in
      let w = first_length_within d in
      let e : drop k ls ≡ take n d ∷ lines_of (drop n d) = there ∙ lines_first d (omega arith) in
      let b : k < length ls = omega (arith, length-drop k ls, ap length e) in
      let f : line_at ls k ≡ take n d = ap (λ (i : ℕ). get_or ls i []) (sym (add-zero k)) ∙ sym (get_or-drop k ls 0 []) ∙ ap (λ (m : List (List ℕ)). get_or m 0 []) e in
      let size : n ≡ next - at = omega arith in
      record {
        below = b;
        line = f ∙ ap (λ (i : ℕ). take i d) size;
        begins_next = let t = before_next ls k b in let m = ap length f ∙ length-take-le n d w in omega arith;
        further = omega arith;
        within = omega arith;
      }

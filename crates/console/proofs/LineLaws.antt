-- What every piece of a line has, whatever the chunk and the buffer.
use mathlib.Core.Bool.{Bool, true, false, cond}
use mathlib.Core.List.{List}
use mathlib.Core.Path.{◌≡◌, refl, sym, ap, ◌∙◌}
use Prim.Native.Nat.{ℕ, ◌+◌, ◌≤◌, ◌<◌, max, min}
use native.Mathlib.Omega.{arith}
use lib.Dec.{leb, ltb}
use lib.ListN.{drop, length, take, length-drop, length-take}
use lib.Seq.{length-take-le}
use borrow.Author.Tests.{le-ltb, leb-true, lt-ltb, ltb-false, ltb-true}
use Rattle.octets.specs.Bytes.{Appended, index_of, lf, put_at}
use Rattle.octets.specs.Internal.Put.{Put}
use Rattle.std.specs.Prelude.{None, Some}
use Rattle.octets.proofs.ByteLaws.{appended_put, index_le, put_length}
use Rattle.console.specs.Lines.{Taken, piece_buffer, fits_of, held_length, piece, piece_by, piece_of}
use Rattle.console.specs.declared.lines.Line.{Line}
use Rattle.console.specs.declared.lines.Line.TheVariants.{More, Whole, Bad}
use Rattle.console.specs.Internal.Place.{place_of}
use Rattle.console.specs.declared.lines.Partial.{Partial}
use Rattle.console.specs.declared.lines.Partial.TheVariants.{Held, Skipped}
use Rattle.console.specs.declared.lines.Piece.{Piece}

-- what fits is within the buffer
pub fits_within : (p : Partial) (n size : ℕ) → fits_of p n size ≡ true → held_length p + (n + 1) ≤ size
unfolding fits_of
fits_within (Held k) n size e = leb-true (k + (n + 1)) size e
fits_within Skipped n size e = cc

-- where there is a place for them, and where there is none
place_some : (p : Partial) (n size at : ℕ) → Some at ≡ place_of p (n + 1) size → (fits_of p n size ≡ true) × (at ≡ held_length p)
unfolding fits_of
place_some (Held k) n size at e = pick (leb (k + (n + 1)) size) e
  where
    pick : (t : Bool) → Some at ≡ cond t (Some k) None → (t ≡ true) × (at ≡ k)
    pick true e = (refl, cc)
    pick false e = cc
place_some Skipped n size at e = cc

place_none : (p : Partial) (n size : ℕ) → None ≡ place_of p (n + 1) size → fits_of p n size ≡ false
unfolding fits_of
place_none (Held k) n size e = pick (leb (k + (n + 1)) size) e
  where
    pick : (t : Bool) → None ≡ cond t (Some k) None → t ≡ false
    pick true e = cc
    pick false e = refl
place_none Skipped n size e = refl

-- of a piece whose bytes, k before the LF, are among the L from index `from` on
next_within : (t f : Bool) (from k n L : ℕ) → ltb k L ≡ t → k ≤ L → (piece_by t f (from + k) n).next ≤ from + L
next_within true true from k n L e h = let l = ltb-true k L e in omega arith
next_within true false from k n L e h = let l = ltb-true k L e in omega arith
next_within false true from k n L e h = omega arith
next_within false false from k n L e h = omega arith

next_past : (t f : Bool) (from k n L : ℕ) → ltb k L ≡ t → from + min 1 L ≤ (piece_by t f (from + k) n).next
next_past true true from k n L e = omega arith
next_past true false from k n L e = omega arith
next_past false true from k n L e = let l = ltb-false k L e in omega arith
next_past false false from k n L e = let l = ltb-false k L e in omega arith

whole_within : (t f : Bool) (next n size m : ℕ) → (f ≡ true → n + 1 ≤ size) → (piece_by t f next n).line ≡ Whole m → m ≤ size
whole_within true true next n size m h e = let d : n + 1 ≡ m = cc in let l = h refl in omega arith
whole_within true false next n size m h e = let z : ◌≡◌ {A = ℕ} 0 1 = cc in absurd (omega arith)
whole_within false true next n size m h e = let z : ◌≡◌ {A = ℕ} 0 1 = cc in absurd (omega arith)
whole_within false false next n size m h e = let z : ◌≡◌ {A = ℕ} 0 1 = cc in absurd (omega arith)

module _ (chunk : List ℕ) (from : ℕ) (buffer : List ℕ) (p : Partial) where
  abbrev rest : List ℕ
  rest = drop from chunk

  abbrev k : ℕ
  k = index_of lf rest

  abbrev fit : Bool
  fit = fits_of p k (length buffer)

  piece_within : (piece_of rest from (length buffer) p).next ≤ max from (length chunk)
  unfolding piece_of
  piece_within =
      let d = length-drop from chunk in
      let w = next_within (ltb k (length rest)) fit from k (held_length p + k) (length rest) refl (index_le lf rest) in omega arith

  piece_progress : min (from + 1) (length chunk) ≤ (piece_of rest from (length buffer) p).next
  unfolding piece_of
  piece_progress =
      let d = length-drop from chunk in
      let w = next_past (ltb k (length rest)) fit from k (held_length p + k) (length rest) refl in omega arith

  piece_whole : (m : ℕ) → (piece_of rest from (length buffer) p).line ≡ Whole m → m ≤ length buffer
  unfolding piece_of
  piece_whole m e =
      whole_within (ltb k (length rest)) fit (from + k) (held_length p + k) (length buffer) m (λ (f : fit ≡ true). let w = fits_within p k (length buffer) f in omega arith) e

  buffer_length : length (piece_buffer rest buffer p) ≡ length buffer
  unfolding piece_buffer
  buffer_length = pick fit refl
    where
      pick : (t : Bool) → fit ≡ t → length (cond t (put_at buffer (held_length p) (take (k + 1) rest)) buffer) ≡ length buffer
      pick true e =
          let w = fits_within p k (length buffer) e in
          let l = length-take (k + 1) rest in put_length buffer (held_length p) (take (k + 1) rest) (omega arith)
      pick false e = refl

  -- the rest follows from the two equations
  taken : (r : Piece) (after : List ℕ) → r ≡ piece_of rest from (length buffer) p → after ≡ piece_buffer rest buffer p → Taken chunk from buffer p r after
  taken r after e f =
      let g : length after ≡ length buffer = rw f buffer_length in
      let w : (m : ℕ) → r.line ≡ Whole m → m ≤ length after = λ m h. rw g (piece_whole m (rw e at h)) in
      record {
        piece_is = e;
        buffer_is = f;
        same_length = g;
        within = rw e piece_within;
        progress = rw e piece_progress;
        whole = w;
        counted = λ m h. sym (length-take-le m after (w m h));
      }

pieces : {m n : ℕ} {q p : Partial} {k l : Line} → m ≡ n → q ≡ p → k ≡ l → piece m q k ≡ piece n p l
pieces e f g = cc

-- there is a place for the first line of xs, or what there is of it
placed : {buffer after : List ℕ} {at size : ℕ} (p : Partial) (n : ℕ) (xs : List ℕ) → Some at ≡ place_of p (n + 1) (length buffer) → Appended buffer at (take (n + 1) xs) size after
    → Put buffer (held_length p) (take (n + 1) xs) size after
placed {buffer} p n xs place a =
    let s = place_some p n (length buffer) _ place in
    let w = fits_within p n (length buffer) s.0 in
    let l = length-take (n + 1) xs in
    let e = s.1 in rw e at (appended_put (omega arith) a)

-- `take` in its four ways: xs are the bytes from index `from` on, n of them before the first LF
module _ {chunk : List ℕ} {from : ℕ} {buffer : List ℕ} {p : Partial} {xs : List ℕ} {n : ℕ} (bytes : xs ≡ drop from chunk) (index : n ≡ index_of lf xs) where
  by_tests : (t f : Bool) (r : Piece) (after : List ℕ) → ltb n (length xs) ≡ t → fits_of p n (length buffer) ≡ f → r ≡ piece_by t f (from + n) (held_length p + n)
      → after ≡ cond f (put_at buffer (held_length p) (take (n + 1) xs)) buffer → Taken chunk from buffer p r after
  unfolding piece_of piece_buffer
  by_tests t f r after d e g h = taken chunk from buffer p r after (rw (← bytes, ← index, d, e) g) (rw (← bytes, ← index, e) h)

  module _ {at size : ℕ} {after : List ℕ} (place : Some at ≡ place_of p (n + 1) (length buffer)) (a : Appended buffer at (take (n + 1) xs) size after) where
    pub taken_whole : {r : Piece} {q : Partial} → n < length xs → r ≡ piece (from + n + 1) q (Whole size) → q ≡ Held 0 → Taken chunk from buffer p r after
    taken_whole {r} l e z =
        let k = length-take-le (n + 1) xs (omega arith) in
        let put = placed p n xs place a in
        let w : size ≡ held_length p + n + 1 = put.past ∙ omega arith in
        by_tests true true r after (lt-ltb n (length xs) l) (place_some p n (length buffer) at place).0 (e ∙ pieces refl z (ap Whole (w ∙ omega arith))) put.written

    pub taken_more : {r : Piece} → length xs ≤ n → r ≡ piece (from + n) (Held size) More → Taken chunk from buffer p r after
    taken_more {r} l e =
        let i = index_le lf xs in
        let k = length-take (n + 1) xs in
        let j = index in
        let put = placed p n xs place a in
        let w : size ≡ held_length p + n = put.past ∙ omega arith in
        by_tests false true r after (le-ltb n (length xs) l) (place_some p n (length buffer) at place).0 (e ∙ pieces refl (ap Held w) refl) put.written

  -- there is no place
  module _ (place : None ≡ place_of p (n + 1) (length buffer)) where
    pub taken_bad : {r : Piece} {q : Partial} → n < length xs → r ≡ piece (from + n + 1) q Bad → q ≡ Held 0 → Taken chunk from buffer p r buffer
    taken_bad {r} l e z = by_tests true false r buffer (lt-ltb n (length xs) l) (place_none p n (length buffer) place) (e ∙ pieces refl z refl) refl

    pub taken_long : {r : Piece} → length xs ≤ n → r ≡ piece (from + n) Skipped More → Taken chunk from buffer p r buffer
    taken_long {r} l e = by_tests false false r buffer (le-ltb n (length xs) l) (place_none p n (length buffer) place) e refl

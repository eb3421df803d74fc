-- A line that comes in two chunks is the line that comes in one.
use mathlib.Core.Bool.{Bool, true, false, true≢false}
use mathlib.Core.List.{List, ◌++◌}
use mathlib.Core.Path.{◌≡◌, refl, sym, ap, ◌∙◌}
use Prim.Native.Nat.{ℕ, ◌+◌, ◌≤◌}
use native.Mathlib.Nat.{add_assoc}
use native.Mathlib.Omega.{arith}
use lib.Dec.{ltb}
use lib.ListN.{length, take, length-append}
use lib.Seq.{take_all, take-append-add}
use borrow.Author.Tests.{le-leb, leb-true, le-ltb, lt-ltb, ltb-true}
use Rattle.common.proofs.BoolLaws.{not_so, same_truth}
use Rattle.octets.specs.Bytes.{index_of, lf, put_at}
use Rattle.octets.proofs.ByteLaws.{index_append, put_length, put_put}
use Rattle.console.specs.Lines.{piece_buffer, fits_of, held_length, piece_by, piece_of}
use Rattle.console.specs.declared.lines.Partial.{Partial}
use Rattle.console.specs.declared.lines.Partial.TheVariants.{Held, Skipped}
use Rattle.console.specs.declared.lines.Piece.{Piece}
use Rattle.console.proofs.LineLaws.{fits_within}

-- fewer bytes fit too
fewer_fit : (p : Partial) (m n size : ℕ) → m ≤ n → fits_of p n size ≡ true → fits_of p m size ≡ true
unfolding fits_of
fewer_fit (Held k) m n size h e = let l = leb-true (k + (n + 1)) size e in le-leb (k + (m + 1)) size (omega arith)
fewer_fit Skipped m n size h e = e

-- m bytes more that fit are held then
held_fits : (p : Partial) (m n size : ℕ) → fits_of p m size ≡ true → fits_of (Held (held_length p + m)) n size ≡ fits_of p (m + n) size
unfolding fits_of
held_fits (Held k) m n size e = let s : k + m + (n + 1) ≡ k + (m + n + 1) = omega arith in rw s
held_fits Skipped m n size e = cc

skipped_fits : (n size : ℕ) → fits_of Skipped n size ≡ false
unfolding fits_of
skipped_fits n size = refl

-- the length of a line that does not fit is not used
no_length : (t : Bool) (next m n : ℕ) → piece_by t false next m ≡ piece_by t false next n
no_length true next m n = refl
no_length false next m n = refl

-- the bytes xs, with no LF in them, and then ys
module _ (xs ys : List ℕ) (from : ℕ) (buffer : List ℕ) (p : Partial) (no_lf : index_of lf xs ≡ length xs) where
  abbrev m : ℕ
  m = length xs

  abbrev n : ℕ
  n = index_of lf ys

  abbrev size : ℕ
  size = length buffer

  -- what xs leave held
  abbrev between : Partial
  between = (piece_of xs from size p).partial

  first_piece : (f : Bool) → fits_of p m size ≡ f → piece_of xs from size p ≡ piece_by false f (from + m) (held_length p + m)
  unfolding piece_of
  first_piece f e = rw (no_lf, le-ltb m m (omega arith), e)

  held_between : fits_of p m size ≡ true → between ≡ Held (held_length p + m)
  held_between e = ap (λ (r : Piece). r.partial) (first_piece true e)

  skipped_between : fits_of p m size ≡ false → between ≡ Skipped
  skipped_between e = ap (λ (r : Piece). r.partial) (first_piece false e)

  ends : ltb n (length ys) ≡ ltb (m + n) (length (xs ++ ys))
  ends =
      let l = length-append xs ys in
      same_truth (ltb n (length ys)) (ltb (m + n) (length (xs ++ ys)))
      (λ (e : ltb n (length ys) ≡ true). let h = ltb-true n (length ys) e in lt-ltb (m + n) (length (xs ++ ys)) (omega arith))
      (λ (e : ltb (m + n) (length (xs ++ ys)) ≡ true). let h = ltb-true (m + n) (length (xs ++ ys)) e in lt-ltb n (length ys) (omega arith))

  fit_then : fits_of p m size ≡ true → fits_of (Held (held_length p + m)) n size ≡ fits_of p (m + n) size
  fit_then = held_fits p m n size

  piece_held : fits_of p m size ≡ true → piece_of ys (from + m) size (Held (held_length p + m)) ≡ piece_of (xs ++ ys) from size p
  unfolding piece_of
  piece_held e = rw (index_append lf xs ys no_lf, ← ends, fit_then e, add_assoc from m n, add_assoc (held_length p) m n)

  piece_skipped : fits_of p m size ≡ false → piece_of ys (from + m) size Skipped ≡ piece_of (xs ++ ys) from size p
  unfolding piece_of
  piece_skipped e =
      let o : fits_of p (m + n) size ≡ false =
      not_so (fits_of p (m + n) size) (λ (h : fits_of p (m + n) size ≡ true). true≢false (sym (fewer_fit p m (m + n) size (omega arith) h) ∙ e)) in
      rw (skipped_fits n size, index_append lf xs ys no_lf, ← ends, o, add_assoc from m n) (no_length (ltb n (length ys)) (from + (m + n)) (0 + n) (held_length p + (m + n)))

  -- the second of two chunks makes the piece that the one chunk makes
  pub cut_piece : piece_of ys (from + m) size between ≡ piece_of (xs ++ ys) from size p
  cut_piece = pick (fits_of p m size) refl
    where
      pick : (f : Bool) → fits_of p m size ≡ f → piece_of ys (from + m) size between ≡ piece_of (xs ++ ys) from size p
      pick true e = ap (piece_of ys (from + m) size) (held_between e) ∙ piece_held e
      pick false e = ap (piece_of ys (from + m) size) (skipped_between e) ∙ piece_skipped e

  buffer_between : fits_of p m size ≡ true → piece_buffer xs buffer p ≡ put_at buffer (held_length p) xs
  unfolding piece_buffer
  buffer_between e = rw (no_lf, e, take_all (m + 1) xs (omega arith))

  buffer_then : fits_of p (m + n) size ≡ true → (b : List ℕ) → length b ≡ size → b ≡ put_at buffer (held_length p) xs
      → piece_buffer ys b (Held (held_length p + m)) ≡ piece_buffer (xs ++ ys) buffer p
  unfolding piece_buffer
  buffer_then e b l f =
      let d = fewer_fit p m (m + n) size (omega arith) e in
      let w = fits_within p m size d in
      let t : take (m + n + 1) (xs ++ ys) ≡ xs ++ take (n + 1) ys = rw (add_assoc m n 1) (take-append-add xs ys (n + 1)) in
      rw (l, fit_then d, index_append lf xs ys no_lf, e, f, t) (put_put buffer (held_length p) xs (take (n + 1) ys) (omega arith))

  -- and, where the line fits, the same buffer
  pub cut_buffer : fits_of p (m + n) size ≡ true → piece_buffer ys (piece_buffer xs buffer p) between ≡ piece_buffer (xs ++ ys) buffer p
  cut_buffer e =
      let d = fewer_fit p m (m + n) size (omega arith) e in
      let w = fits_within p m size d in
      let b = buffer_between d in
      ap (piece_buffer ys (piece_buffer xs buffer p)) (held_between d) ∙ buffer_then e (piece_buffer xs buffer p) (ap length b ∙ put_length buffer (held_length p) xs (omega arith)) b

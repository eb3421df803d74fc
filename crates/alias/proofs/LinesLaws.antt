-- The laws of the starts of lines: that cutting by them gives the lines back.
use mathlib.Core.Bool.{Bool, true, false}
use mathlib.Core.List.{List, [], ◌∷◌}
use mathlib.Core.Logic.{⊎_elim}
use mathlib.Core.Path.{◌≡◌, refl, sym, ap, ◌∙◌, subst}
use Prim.Native.Nat.{ℕ, zero, suc, ◌+◌, ◌-◌, ◌*◌, ◌/◌, ◌≤◌, ◌<◌}
use native.Mathlib.Omega.{arith}
use lib.ListN.{drop, get_or, length, set, take, length-append, length-set, length-take}
use lib.Seq.{drop-append_seam, drop-drop, get_or-set_other, get_or-set_same, get_or-take, length-take-le, take-length}
use borrow.Author.Tests.{eqb-false, le-leb, lt-leb}
use Rattle.common.proofs.IndexLaws.{le_or_lt, tabulate_at, tabulate_is, tabulate_length, tabulate_same}
use Rattle.common.proofs.SearchLaws.{same_or_not}
use denote.Param.Members.{Mut, Called}
use denote.Ref.{Bor}
use lib.Dec.{eqb}
use Rattle.std.specs.Iterator.{FindsPosition, Yields}
use Rattle.std.specs.Option.{MatchOption, unwrap_or}
use Rattle.std.specs.Prelude.{Option, None, Some}
use Rattle.std.specs.Slice.Iter.{chunks_exact_rest, chunks_exact_size, chunks_exact_steps}
use Rattle.std.specs.declared.slice.ChunksExact.{ChunksExact}
use Rattle.std.specs.List.{FoldsTo}
use Rattle.std.specs.List.{list_any}
use Rattle.common.proofs.BoolLaws.{neither}
use Rattle.octets.specs.Bytes.{index_of, lf}
use Rattle.octets.proofs.ByteLaws.{Without, index_append, index_without, without_cons}
use Rattle.octets.specs.Lines.{bytes_before, line_at, lines_of}
use Rattle.octets.specs.Internal.Lines.{line_end}
use Rattle.octets.proofs.LineLaws.{before_take, line_here, lines_end}
use Rattle.alias.specs.Internal.Walk.{no_lines}
use Rattle.alias.specs.Lines.{indexed_of, line_start, lines_by, max_lines, part_at}

-- ---- bytes among which there is no LF

pub none_met : (xs : List ℕ) → list_any (λ x. eqb x lf) xs ≡ false → index_of lf xs ≡ length xs
none_met xs h = index_without lf xs (without xs h)
  where
    without : (ys : List ℕ) → list_any (λ x. eqb x lf) ys ≡ false → Without lf ys
    without [] h = λ k l e. absurd (omega arith)
    without (y ∷ ys) h = let d = neither (eqb y lf) (list_any (λ x. eqb x lf) ys) h in without_cons lf y ys (eqb-false y lf d.0) (without ys d.1)

-- ---- a search of chunks of bytes for one that has an LF

-- there is no LF before an index
abbrev pub Skipped : List ℕ → ℕ → Type 0
Skipped bytes i = (i ≤ length bytes) × (index_of lf bytes ≡ i + index_of lf (drop i bytes))

module _ {F : Type 0} {g : Mut F (Bor (List ℕ) × Unit {0}) Bool} (t : F) (h : (x : Bor (List ℕ)) (q : F) → Called g t (x, tt) false q → (q ≡ t) × (index_of lf x.now ≡ length x.now)) where
  -- from s on, the search passed over n chunks, and went on to w
  record Passed (s w : ChunksExact ℕ) (n : ℕ) : Type 0 where
    size : chunks_exact_size w ≡ 16
    long : n * 16 + length (chunks_exact_rest w) ≡ length (chunks_exact_rest s)
    rest : chunks_exact_rest w ≡ drop (n * 16) (chunks_exact_rest s)
    later : index_of lf (chunks_exact_rest s) ≡ n * 16 + index_of lf (chunks_exact_rest w)

  passed : (xs : List (Bor (List ℕ))) (s w : ChunksExact ℕ) (p j : F) → p ≡ t → chunks_exact_size s ≡ 16 → Yields chunks_exact_steps s xs w → FoldsTo (λ p x q. Called g p (x, tt) false q) p xs j
      → Passed s w (length xs)
  passed [] s w p j e z y l =
      let a = ap chunks_exact_rest y in
      record { size = sym (ap chunks_exact_size y) ∙ z; long = omega (arith, ap length a); rest = sym a; later = ap (index_of lf) a ∙ omega arith }
  passed (x ∷ xs) s w p j e z y l =
      let b = h x l.0 (subst (λ (q : F). Called g q (x, tt) false l.0) e l.1) in
      let r = passed xs y.0 w l.0 j b.0 (y.1.0 ∙ z) y.2 l.2 in
      let k : length x.now ≡ 16 = y.1.1.1 ∙ z in
      let m : length (chunks_exact_rest s) ≡ 16 + length (chunks_exact_rest y.0) = ap length y.1.1.0 ∙ length-append x.now (chunks_exact_rest y.0) ∙ omega arith in
      let u = r.long in
      let v = r.later in
      record {
        size = r.size;
        long = omega arith;
        rest = r.rest ∙ ap (drop (length xs * 16)) (sym (rw (y.1.1.0, ← k) (drop-append_seam x.now (chunks_exact_rest y.0)))) ∙ drop-drop (length xs * 16) 16 (chunks_exact_rest s) ∙ ap (λ (i : ℕ). drop i (chunks_exact_rest s)) (omega arith);
        later = ap (index_of lf) y.1.1.0 ∙ index_append lf x.now (chunks_exact_rest y.0) b.1 ∙ omega arith;
      }

  pub chunks_skipped : (s u : ChunksExact ℕ) (r : Option ℕ) → chunks_exact_size s ≡ 16 → FindsPosition chunks_exact_steps g s t r u
      → Skipped (chunks_exact_rest s) (unwrap_or r (length (chunks_exact_rest s) / 16) * 16)
  chunks_skipped s u r z d = told d.1 r (passed d.0 s w t d.2 refl z d.3.1 d.4) d.3.2 d.5
    where
      w : ChunksExact ℕ
      w = d.3.0

      m : ℕ
      m = length d.0

      n : ℕ
      n = length (chunks_exact_rest s) / 16

      skipped : Passed s w m → Skipped (chunks_exact_rest s) (m * 16)
      skipped p = (omega (arith, p.long), p.later ∙ ap (λ (ys : List ℕ). m * 16 + index_of lf ys) p.rest)

      told : (o : Option (Bor (List ℕ))) (r : Option ℕ) → Passed s w m → chunks_exact_steps w o u → MatchOption o (r ≡ None) (λ x. (r ≡ Some m) × ((q : F) × Called g d.2 (x, tt) true q))
          → Skipped (chunks_exact_rest s) (unwrap_or r n * 16)
      told None r p l k = let a : n ≡ m = omega (arith, l.1.0, p.size, p.long) in rw (k, a) (skipped p)
      told (Some x) r p l k = rw k.0 (skipped p)

-- ---- the starts of lines

start_in : (ls : List (List ℕ)) (k : ℕ) → k ≤ length ls → line_start ls k ≡ bytes_before ls k
unfolding line_start
start_in ls k h = rw (le-leb k (length ls) h)

start_out : (ls : List (List ℕ)) (k : ℕ) → length ls < k → line_start ls k ≡ 0
unfolding line_start
start_out ls k h = rw (lt-leb k (length ls) h)

-- of the first m lines
start_of_first : (ls : List (List ℕ)) (m k : ℕ) → k ≤ m → m ≤ length ls → line_start (take m ls) k ≡ bytes_before ls k
start_of_first ls m k h l = let e = length-take-le m ls l in start_in (take m ls) k (omega arith) ∙ before_take ls m k h

pub starts_none : no_lines.starts ≡ (indexed_of []).starts
unfolding line_start bytes_before
starts_none = tabulate_same (λ k. 0) (line_start []) (max_lines + 1) (λ i l. sym (go i))
  where
    go : (i : ℕ) → line_start [] i ≡ 0
    go zero = refl
    go (suc i) = start_out [] (suc i) (omega arith)

-- one line more
pub starts_next : (ls : List (List ℕ)) (k : ℕ) → k < length ls → k < max_lines
    → set (indexed_of (take k ls)).starts (k + 1) (bytes_before ls (k + 1)) ≡ (indexed_of (take (k + 1) ls)).starts
starts_next ls k h m = tabulate_is (line_start (take (k + 1) ls)) (set xs (k + 1) v) (max_lines + 1) 0 (length-set xs (k + 1) v ∙ size) at_index
  where
    xs : List ℕ
    xs = (indexed_of (take k ls)).starts

    v : ℕ
    v = bytes_before ls (k + 1)

    size : length xs ≡ max_lines + 1
    size = tabulate_length (line_start (take k ls)) (max_lines + 1)

    same : (i : ℕ) → (i ≡ k + 1 → ⊥) → line_start (take k ls) i ≡ line_start (take (k + 1) ls) i
    same i ne =
        ⊎_elim
        (λ (l : i ≤ k). start_of_first ls k i l (omega arith) ∙ sym (start_of_first ls (k + 1) i (omega arith) (omega arith)))
        (λ (l : k < i).
        let a = length-take-le k ls (omega arith) in
        let b = length-take-le (k + 1) ls (omega arith) in
        start_out (take k ls) i (omega arith) ∙ sym (start_out (take (k + 1) ls) i (omega (arith, ne))))
        (le_or_lt i k)

    at_index : (i : ℕ) → i < max_lines + 1 → get_or (set xs (k + 1) v) i 0 ≡ line_start (take (k + 1) ls) i
    at_index i l =
        let s = size in
        ⊎_elim
        (λ (e : i ≡ k + 1). rw e (get_or-set_same xs (k + 1) v 0 (omega arith) ∙ sym (start_of_first ls (k + 1) (k + 1) (omega arith) (omega arith))))
        (λ (ne : i ≡ k + 1 → ⊥). get_or-set_other xs (k + 1) i v 0 ne ∙ tabulate_at (line_start (take k ls)) (max_lines + 1) i 0 l ∙ same i ne)
        (same_or_not i (k + 1))

-- the first k lines, cut by their starts
pub first_lines_by_starts : (bytes : List ℕ) (k : ℕ) → length (take k (lines_of bytes)) ≤ max_lines
    → lines_by bytes (take (length (take k (lines_of bytes)) + 1) (indexed_of (take k (lines_of bytes))).starts) ≡ take k (lines_of bytes)
unfolding lines_by part_at
first_lines_by_starts bytes k h =
    let e = size in
    let n : length starts - 1 ≡ length ms = omega arith in
    rw n (sym (tabulate_is (part_at bytes starts) ms (length ms) [] refl at_index))
  where
    ls : List (List ℕ)
    ls = lines_of bytes

    ms : List (List ℕ)
    ms = take k ls

    all_starts : List ℕ
    all_starts = (indexed_of ms).starts

    starts : List ℕ
    starts = take (length ms + 1) all_starts

    size : length starts ≡ length ms + 1
    size = let t = tabulate_length (line_start ms) (max_lines + 1) in length-take-le (length ms + 1) all_starts (omega arith)

    few : (length ms ≤ k) × (length ms ≤ length ls)
    few = let t = length-take k ls in (omega arith, omega arith)

    start : (i : ℕ) → i ≤ length ms → get_or starts i 0 ≡ bytes_before ls i
    start i l =
        let f = few in
        get_or-take (length ms + 1) all_starts i 0 (omega arith) ∙ tabulate_at (line_start ms) (max_lines + 1) i 0 (omega arith) ∙ start_in ms i l
        ∙ before_take ls k i (omega arith)

    begun_line : (i : ℕ) → i < length ls → bytes_before ls i < length bytes
    begun_line i l = ⊎_elim (λ (u : length bytes ≤ bytes_before ls i). let z = lines_end bytes i (bytes_before ls i) refl u in absurd (omega arith)) (λ u. u) (le_or_lt (length bytes) (bytes_before ls i))

    at_index : (i : ℕ) → i < length ms → line_at ms i ≡ part_at bytes starts i
    at_index i l =
        let f = few in
        let at = bytes_before ls i in
        let here = line_here bytes i at refl (line_end bytes at) (begun_line i (omega arith)) refl in
        get_or-take k ls i [] (omega arith) ∙ here.line ∙ rw (start i (omega arith), start (i + 1) (omega arith), here.begins_next)

pub lines_by_starts : (bytes : List ℕ) → length (lines_of bytes) ≤ max_lines
    → lines_by bytes (take (length (lines_of bytes) + 1) (indexed_of (lines_of bytes)).starts) ≡ lines_of bytes
lines_by_starts bytes h = rw take-length at (first_lines_by_starts bytes (length (lines_of bytes)) (rw take-length h))

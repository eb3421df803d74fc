-- The laws of a walk over the lines of a table, and what the test of the table makes of it.
use mathlib.Core.Bool.{Bool, true, false, cond, ◌||◌, true≢false}
use mathlib.Core.List.{List, [], ◌∷◌, ◌++◌, append_assoc, map, map-append}
use Rattle.common.specs.declared.errno.Errno.{Errno}
use Rattle.common.specs.declared.errno.Errno.TheVariants.{BadLine}
use Rattle.std.specs.Prelude.{Option, None, Some, Result, Ok, Err, MatchResult}
use mathlib.Core.Path.{◌≡◌, refl, sym, ap, ◌∙◌}
use Prim.Native.Nat.{ℕ, ◌+◌, ◌-◌, ◌≤◌, ◌<◌}
use native.Mathlib.Nat.{zero-add}
use native.Mathlib.Omega.{arith}
use lib.ListN.{drop, length, take, length-take, take-append-drop, get_or-append}
use lib.Seq.{get_or-take, length-take-le, take_all}
use borrow.Author.Count.{below_more}
use Rattle.common.specs.Answer.{granted, refused}
use Rattle.common.specs.Index.{first_from}
use Rattle.common.proofs.SearchLaws.{any_same, first_either, first_same, or_else, search_end, search_hit}
use Rattle.octets.specs.Bytes.{same_bytes}
use Rattle.alias_entry.specs.Entry.{abbreviation_bytes, name_bytes, zero_entry}
use Rattle.hexline.specs.Line.{standing_in}
use Rattle.alias_entry.specs.declared.Entry.{Entry}
use Rattle.alias.specs.Internal.Hash.{HashesKept, hashed_count}
use Rattle.octets.specs.Lines.{bytes_before, lines_of}
use Rattle.alias.specs.Lines.{entries_by, table_entries, entries_of, entry_at, indexed_of, lines_by, max_lines}
use Rattle.alias.specs.Table.{bad_at, check_table, judged_lines, repeats_at, shares_of}
use Rattle.alias.specs.Internal.Walk.{Walks, faulty_at, faulty_of, first_repeat, more_lines, no_lines}
use Rattle.alias.specs.declared.LineStarts.{LineStarts}
use Rattle.alias.specs.declared.hash.Hashes.{Hashes}
use Rattle.alias.specs.declared.lookup.Table.{Table}
use Rattle.octets.proofs.LineLaws.{LineHere, lines_end}
use Rattle.alias.proofs.LinesLaws.{first_lines_by_starts, starts_next, starts_none}
use Rattle.alias.proofs.HashLaws.{kept_same}
use Rattle.alias.proofs.LookupLaws.{entry_of, lines_length}
use Rattle.alias.proofs.TableLaws.{entries_length, faulty_bad, faulty_few, good_few, judged_cut_off, judged_faulty, judged_longer, judged_whole}

-- ---- the walk: at is where line count begins, and none of the lines before it is bad by itself

pub record Walking (bytes : List ℕ) (lines : LineStarts) (at : ℕ) : Type 0 where
  pub begins : at ≡ bytes_before (lines_of bytes) lines.count
  pub counted : lines.count ≤ length (lines_of bytes)
  pub indexed : lines.starts ≡ (indexed_of (take lines.count (lines_of bytes))).starts
  pub good : (k : ℕ) → k < lines.count → faulty_at (lines_of bytes) k ≡ false

pub walk_start : (bytes : List ℕ) → Walking bytes no_lines 0
unfolding bytes_before
walk_start bytes = record { begins = refl; counted = omega arith; indexed = starts_none; good = λ k l. absurd (omega arith) }

module _ {bytes : List ℕ} {lines : LineStarts} {at : ℕ} (s : Walking bytes lines at) where
  lines_held : lines ≡ indexed_of (take lines.count (lines_of bytes))
  lines_held = let e = sym (length-take-le lines.count (lines_of bytes) s.counted) in λ i. record { count = e i; starts = s.indexed i }

  still_good : (more : Bool) (k : ℕ) → k < lines.count → faulty_at (judged_lines more bytes) k ≡ false
  still_good more k h = let c = s.counted in judged_faulty more bytes k (omega arith) ∙ s.good k h

  -- line count, which stands there, is tested
  module _ {next : ℕ} (h : LineHere bytes lines.count at next) where
    told : (t : Bool) → faulty_of lines.count (take (next - at) (drop at bytes)) ≡ t → faulty_at (lines_of bytes) lines.count ≡ t
    told t e = ap (faulty_of lines.count) h.line ∙ e

    pub walk_next : faulty_of lines.count (take (next - at) (drop at bytes)) ≡ false → Walking bytes (more_lines lines next) next
    walk_next e =
        let b = h.below in
        let f : lines.count < max_lines = faulty_few lines.count _ e in
        record {
          begins = h.begins_next;
          counted = omega arith;
          indexed = rw (s.indexed, h.begins_next) (starts_next (lines_of bytes) lines.count b f);
          good = below_more _ _ s.good (told false e);
        }

    pub walk_stops : (more : Bool) → faulty_of lines.count (take (next - at) (drop at bytes)) ≡ true → Walks more bytes lines true
    walk_stops more e =
        let b = h.below in
        let j = judged_longer more bytes in
        record {
          lines_are = lines_held;
          good = still_good more;
          first = λ t. (omega arith, judged_faulty more bytes lines.count b ∙ told true e);
          all = λ t. absurd (true≢false t);
        }

  ended : length bytes ≤ at → lines.count ≡ length (lines_of bytes)
  ended l = let c = s.counted in let e = lines_end bytes lines.count at s.begins l in omega arith

  pub walk_ends : (more : Bool) → length bytes ≤ at → Walks more bytes lines more
  walk_ends true l =
      let e = ended l in
      let j = judged_cut_off bytes in
      record {
        lines_are = lines_held;
        good = still_good true;
        first = λ t. (omega arith, ap (faulty_at (judged_lines true bytes)) e ∙ j.1);
        all = λ t. absurd (true≢false t);
      }
  walk_ends false l =
      record {
        lines_are = lines_held;
        good = still_good false;
        first = λ t. absurd (true≢false (sym t));
        all = λ t. ended l ∙ sym (ap length (judged_whole bytes));
      }

-- ---- the first bad line is the first repeat among the lines of a walk, or where there is none the line that the walk stops at

-- whether an entry repeats a name is a matter of the entries up to it
repeats_within_lem : (es fs : List Entry) (k : ℕ) → k < length es → repeats_at (es ++ fs) k ≡ repeats_at es k
unfolding repeats_at
repeats_within_lem es fs k h =
    rw (get_or-append es fs zero_entry k h)
    (ap (λ (b : Bool). same_bytes (name_bytes (entry_at es k)) (abbreviation_bytes (entry_at es k)) || b)
    (any_same _ _ k (λ j l. ap (λ (e : Entry). shares_of e (entry_at es k)) (get_or-append es fs zero_entry j (omega arith)))))

judged_repeats : (more : Bool) (bytes : List ℕ) (n k : ℕ) → k < length (take n (lines_of bytes))
    → repeats_at (entries_of (judged_lines more bytes)) k ≡ repeats_at (entries_of (take n (lines_of bytes))) k
unfolding judged_lines entries_of
judged_repeats more bytes n k h =
    let ls = lines_of bytes in
    let ms = take n ls in
    let more-lines = cond more ([] ∷ []) [] in
    let e : ls ++ more-lines ≡ ms ++ (drop n ls ++ more-lines) = ap (λ (l : List (List ℕ)). l ++ more-lines) (sym (take-append-drop n ls)) ∙ append_assoc ms (drop n ls) more-lines in
    let m = entries_length ms in
    rw (e, map-append) (repeats_within_lem (map standing_in ms) (map standing_in (drop n ls ++ more-lines)) k (omega arith))

-- where a walk answered, with or without a line that is bad by itself
pub walked : {more : Bool} {bytes : List ℕ} {lines : LineStarts} (r : Result (Unit {0}) Errno)
    → MatchResult r (λ _. Walks more bytes lines false) (λ e. (e ≡ BadLine lines.count) × Walks more bytes lines true) → (stopped : Bool) × Walks more bytes lines stopped
walked (Ok x) w = (false, w)
walked (Err e) w = (true, w.1)

-- the starts of the lines, and of the end of the last
abbrev pub starts_to : LineStarts → List ℕ
starts_to l = take (l.count + 1) l.starts

module _ {more : Bool} {bytes : List ℕ} {lines : LineStarts} {stopped : Bool} (x : Walks more bytes lines stopped) where
  count_is : lines.count ≡ length (take lines.count (lines_of bytes))
  count_is = ap (λ (y : LineStarts). y.count) x.lines_are

  within : lines.count ≤ length (lines_of bytes)
  within = let c = count_is in let t = length-take lines.count (lines_of bytes) in omega arith

  walk_few : lines.count ≤ max_lines
  walk_few = good_few (judged_lines more bytes) lines.count x.good

  lines_back : lines_by bytes (starts_to lines) ≡ take lines.count (lines_of bytes)
  lines_back =
      let n = lines.count in
      let c = count_is in
      let f = walk_few in
      ap (λ (xs : List ℕ). lines_by bytes (take (n + 1) xs)) (ap (λ (y : LineStarts). y.starts) x.lines_are)
      ∙ ap (λ (m : ℕ). lines_by bytes (take (m + 1) (indexed_of (take n (lines_of bytes))).starts)) c
      ∙ first_lines_by_starts bytes n (omega arith)

  -- the hashes that are kept of the lines of the table are those of the lines of the walk
  pub walk_hashes : {h : Hashes} → HashesKept (entries_of (lines_of bytes)) lines.count h → HashesKept (entries_by bytes (starts_to lines)) (hashed_count (length (starts_to lines) - 1)) h
  walk_hashes k =
      let n = lines.count in
      let ls = lines_of bytes in
      let c = count_is in
      let w = within in
      let l = lines_length bytes (starts_to lines) in
      let m : hashed_count (length (starts_to lines) - 1) ≡ n = omega (arith, walk_few, l, ap length lines_back) in
      rw (m, lines_back)
      (kept_same (entries_of ls) (entries_of (take n ls)) n
      (λ j h. entry_of ls j (omega arith) ∙ ap standing_in (sym (get_or-take n ls j [] h)) ∙ sym (entry_of (take n ls) j (omega arith))) k)

  repeats : first_from (repeats_at (entries_of (judged_lines more bytes))) 0 lines.count ≡ first_repeat (entries_by bytes (starts_to lines))
  unfolding first_repeat
  repeats =
      let c = count_is in
      rw (lines_back, entries_length, ← c) (first_same _ _ 0 lines.count (λ j a b. judged_repeats more bytes lines.count j (omega arith)))

  first_bad : first_from (bad_at (judged_lines more bytes)) 0 (length (judged_lines more bytes))
      ≡ or_else (first_repeat (entries_by bytes (starts_to lines))) (first_from (bad_at (judged_lines more bytes)) lines.count (length (judged_lines more bytes) - lines.count))
  unfolding bad_at faulty_of
  first_bad =
      let ls = judged_lines more bytes in
      let n = lines.count in
      let i = within in
      let j = judged_longer more bytes in
      let r : length ls ≡ n + (length ls - n) = omega arith in
      ap (first_from (bad_at ls) 0) r
      ∙ first_either (faulty_at ls) (repeats_at (entries_of ls)) 0 n (length ls - n) (λ j a b. x.good j (omega arith))
      ∙ rw (zero-add, repeats)

  -- the first repeat in the table of these lines
  pub walked_repeat : (t : Table) {o : Option ℕ} → t.bytes.now ≡ bytes → t.starts.now ≡ starts_to lines → o ≡ first_repeat (table_entries t) → o ≡ first_repeat (entries_by bytes (starts_to lines))
  walked_repeat t e f g = rw (e, f) at g

  pub check_repeat : {k : ℕ} → Some k ≡ first_repeat (entries_by bytes (starts_to lines)) → check_table more bytes ≡ refused 22 (Some k)
  unfolding check_table
  check_repeat {k} e = rw (first_bad, ← e)

  pub check_stopped : stopped ≡ true → None ≡ first_repeat (entries_by bytes (starts_to lines)) → check_table more bytes ≡ refused 22 (Some lines.count)
  unfolding check_table
  check_stopped t e =
      let ls = judged_lines more bytes in
      let f = x.first t in
      rw (first_bad, ← e, search_hit (bad_at ls) lines.count (length ls) f.0 (faulty_bad ls lines.count f.1))

  pub check_granted : stopped ≡ false → None ≡ first_repeat (entries_by bytes (starts_to lines)) → check_table more bytes ≡ granted lines
  unfolding check_table
  check_granted t e =
      let a = x.all t in
      let j = judged_longer more bytes in
      rw (first_bad, ← e, search_end (bad_at (judged_lines more bytes)) lines.count (length (judged_lines more bytes)) (omega arith))
      (ap granted (ap indexed_of (sym (take_all lines.count (lines_of bytes) (omega arith))) ∙ sym x.lines_are))

-- The laws of a table that was tested: its lines are those that the starts give, its entries are good, and a text names one of them at most.
--
use mathlib.Core.Bool.{Bool, true, false, cond, not, true≢false}
use mathlib.Core.List.{List, [], ◌∷◌, append-nil}
use mathlib.Core.Logic.{◌⊎◌, inl, inr, ⊎_elim}
use Rattle.std.specs.Prelude.{Option, None, Some}
use mathlib.Core.Path.{◌≡◌, refl, sym, ap, ◌∙◌}
use Prim.Native.Nat.{ℕ, ◌+◌, ◌≤◌, ◌<◌}
use native.Mathlib.Nat.{eq-or-lt_of_le}
use native.Mathlib.Omega.{arith}
use lib.Dec.{leb}
use lib.ListN.{length, take, length-append, length-map, get_or-append}
use lib.Seq.{get_or_at}
use borrow.Author.Tests.{le-leb, leb-false, lt-leb, not-false}
use Rattle.common.specs.Answer.{granted, is_granted}
use Rattle.common.proofs.AnswerLaws.{grants_same}
use Rattle.common.proofs.BoolLaws.{both, either, first_true, neither, or_first, or_second, second_true}
use Rattle.common.proofs.IndexLaws.{le_or_lt}
use Rattle.common.proofs.SearchLaws.{first_none, none_of}
use Rattle.octets.specs.Bytes.{same_bytes}
use Rattle.octets.proofs.ByteLaws.{same_is}
use Rattle.frame.specs.Frame.{framed_of, spelled_of}
use Rattle.alias_entry.specs.Entry
use Rattle.alias_entry.specs.Entry.{TypedEntry, abbreviation_bytes, name_bytes}
use Rattle.hexline.specs.Line.{read_entry_line, standing_in}
use Rattle.alias_entry.specs.declared.Entry.{Entry}
use Rattle.hexline.proofs.StandingLaws.{entry_standing, standing_read, standing_typed}
use Rattle.octets.specs.Lines.{line_at, lines_of}
use Rattle.alias.specs.Lines.{entries_of, entry_at, indexed_of, lines_by, max_lines}
use Rattle.alias.specs.Lookup.{called_of}
use Rattle.alias.specs.Table.{bad_at, check_table, judged_lines, repeats_at, shares_of, verdict_of}
use Rattle.alias.specs.Internal.Walk.{faulty_at, faulty_of}
use Rattle.alias.specs.declared.LineStarts.{LineStarts}
use Rattle.alias.proofs.LinesLaws.{lines_by_starts}
use Rattle.alias.proofs.LookupLaws.{entry_of}

-- ---- the lines to be judged

-- a line of no bytes is not accepted
no_bytes : is_granted (read_entry_line []) ≡ false
unfolding framed_of spelled_of
no_bytes = refl

module _ (more : Bool) (bytes : List ℕ) where
  judged_at : (k : ℕ) → k < length (lines_of bytes) → line_at (judged_lines more bytes) k ≡ line_at (lines_of bytes) k
  unfolding judged_lines
  judged_at k h = get_or-append (lines_of bytes) (cond more ([] ∷ []) []) [] k h

  pub judged_faulty : (k : ℕ) → k < length (lines_of bytes) → faulty_at (judged_lines more bytes) k ≡ faulty_at (lines_of bytes) k
  judged_faulty k h = rw (judged_at k h)

  pub judged_longer : length (lines_of bytes) ≤ length (judged_lines more bytes)
  unfolding judged_lines
  judged_longer = simp length-append (omega arith)

-- a table that is cut off has one line more, which is bad
pub judged_cut_off : (bytes : List ℕ) → (length (judged_lines true bytes) ≡ length (lines_of bytes) + 1) × (faulty_at (judged_lines true bytes) (length (lines_of bytes)) ≡ true)
unfolding judged_lines faulty_of
judged_cut_off bytes =
    let n = length (lines_of bytes) in
    (length-append (lines_of bytes) ([] ∷ []), rw (get_or_at (lines_of bytes) [] [] [] n refl, no_bytes) (or_second (leb max_lines n) refl))

pub judged_whole : (bytes : List ℕ) → judged_lines false bytes ≡ lines_of bytes
unfolding judged_lines
judged_whole bytes = append-nil (lines_of bytes)

-- ---- lines that are not bad

-- a line that is not bad by itself is not one too many
pub faulty_few : (k : ℕ) (line : List ℕ) → faulty_of k line ≡ false → k < max_lines
unfolding faulty_of
faulty_few k line e = leb-false max_lines k (neither _ _ e).0

-- which lines are
pub faulty_late : (k : ℕ) (line : List ℕ) → max_lines ≤ k → faulty_of k line ≡ true
unfolding faulty_of
faulty_late k line l = rw (le-leb max_lines k l)

pub faulty_unread : (k : ℕ) (line : List ℕ) → is_granted (read_entry_line line) ≡ false → faulty_of k line ≡ true
unfolding faulty_of
faulty_unread k line e = or_second (leb max_lines k) (ap not e)

pub faulty_not : (k : ℕ) (line : List ℕ) → k < max_lines → is_granted (read_entry_line line) ≡ true → faulty_of k line ≡ false
unfolding faulty_of
faulty_not k line l e = rw (lt-leb max_lines k l, e)

-- and is an entry
faulty_read : (k : ℕ) (line : List ℕ) → faulty_of k line ≡ false → is_granted (read_entry_line line) ≡ true
unfolding faulty_of
faulty_read k line e = not-false (is_granted (read_entry_line line)) (neither (leb max_lines k) _ e).1

-- a table has few lines, where none of them is bad by itself
pub good_few : (ls : List (List ℕ)) (n : ℕ) → ((k : ℕ) → k < n → faulty_at ls k ≡ false) → n ≤ max_lines
good_few ls n h =
    ⊎_elim (λ l. l) (λ l. absurd (let f = faulty_few max_lines (line_at ls max_lines) (h max_lines l) in omega arith)) (le_or_lt n max_lines)

pub faulty_bad : (ls : List (List ℕ)) (k : ℕ) → faulty_at ls k ≡ true → bad_at ls k ≡ true
unfolding bad_at faulty_of
faulty_bad ls k e = or_first (repeats_at (entries_of ls) k) e

-- a table that is cut off has a bad line: the one after those that end
pub cut_off_bad : (bytes : List ℕ) → bad_at (judged_lines true bytes) (length (lines_of bytes)) ≡ true
cut_off_bad bytes = faulty_bad (judged_lines true bytes) (length (lines_of bytes)) (judged_cut_off bytes).1

not_bad : (ls : List (List ℕ)) (k : ℕ) → bad_at ls k ≡ false → (faulty_at ls k ≡ false) × (repeats_at (entries_of ls) k ≡ false)
unfolding bad_at faulty_of
not_bad ls k e = neither (faulty_at ls k) (repeats_at (entries_of ls) k) e

-- ---- a table that is granted has no bad line, and its lines are what is granted

verdict_none : (o : Option ℕ) (x y : LineStarts) → verdict_of o y ≡ granted x → (o ≡ None) × (x ≡ y)
verdict_none None x y e = (refl, sym (grants_same y x e))
verdict_none (Some k) x y e = absurd (true≢false (sym (ap is_granted e)))

none_bad : (more : Bool) (bytes : List ℕ) (x : LineStarts) → check_table more bytes ≡ granted x
    → (x ≡ indexed_of (lines_of bytes)) × ((k : ℕ) → k < length (judged_lines more bytes) → bad_at (judged_lines more bytes) k ≡ false)
unfolding check_table
none_bad more bytes x e =
    let v = verdict_none _ x (indexed_of (lines_of bytes)) e in
    (v.1, λ k h. first_none (bad_at (judged_lines more bytes)) 0 (length (judged_lines more bytes)) v.0 k (omega arith) (omega arith))

all_good : (more : Bool) (bytes : List ℕ) (x : LineStarts) → check_table more bytes ≡ granted x → (k : ℕ) → k < length (lines_of bytes) → bad_at (lines_of bytes) k ≡ false
all_good true bytes x e k h =
    let j = judged_cut_off bytes in
    let b = (none_bad true bytes x e).1 (length (lines_of bytes)) (omega arith) in
    absurd (true≢false (sym j.1 ∙ (not_bad (judged_lines true bytes) (length (lines_of bytes)) b).0))
all_good false bytes x e k h = rw judged_whole at ((none_bad false bytes x e).1 k (rw judged_whole h))

pub checked_small : (more : Bool) (bytes : List ℕ) (x : LineStarts) → check_table more bytes ≡ granted x → (x.count ≤ max_lines) × (x ≡ indexed_of (lines_of bytes))
checked_small more bytes x e =
    let i = (none_bad more bytes x e).0 in
    let c = ap (λ (y : LineStarts). y.count) i in
    let few = good_few (lines_of bytes) (length (lines_of bytes)) (λ k h. (not_bad (lines_of bytes) k (all_good more bytes x e k h)).0) in
    (omega arith, i)

pub checked_lines : (more : Bool) (bytes : List ℕ) (x : LineStarts) → check_table more bytes ≡ granted x
    → lines_by bytes (take (x.count + 1) x.starts) ≡ lines_of bytes
checked_lines more bytes x e =
    let s = checked_small more bytes x e in
    let c = ap (λ (y : LineStarts). y.count) s.1 in
    rw s.1 (lines_by_starts bytes (omega arith))

-- ---- good entries: each is valid, and none repeats a name

pub record Good (es : List Entry) : Type 0 where
  pub valid : (k : ℕ) → k < length es → Entry.valid_of (entry_at es k) ≡ true
  pub typed : (k : ℕ) → k < length es → TypedEntry (entry_at es k)
  pub single : (k : ℕ) → k < length es → repeats_at es k ≡ false
  pub few : length es ≤ max_lines

pub entries_length : (ls : List (List ℕ)) → length (entries_of ls) ≡ length ls
unfolding entries_of
entries_length ls = length-map ls standing_in

pub checked_good : (more : Bool) (bytes : List ℕ) (x : LineStarts) → check_table more bytes ≡ granted x → Good (entries_of (lines_of bytes))
checked_good more bytes x e =
    let ls = lines_of bytes in
    let n = entries_length ls in
    let s = checked_small more bytes x e in
    let c = ap (λ (y : LineStarts). y.count) s.1 in
    record {
      valid = λ k h.
          let l : k < length ls = omega arith in
          rw (entry_of ls k l)
          (entry_standing (line_at ls k) (standing_in (line_at ls k)) (standing_read (line_at ls k) (faulty_read k (line_at ls k) (not_bad ls k (all_good more bytes x e k l)).0))).1;
      typed = λ k h. rw (entry_of ls k (omega arith)) (standing_typed (line_at ls k));
      single = λ k h. (not_bad ls k (all_good more bytes x e k (omega arith))).1;
      few = omega arith;
    }

-- ---- a text names one entry at most

-- which names an entry has
called_by : (e : Entry) (text : List ℕ) → called_of e text ≡ true → (name_bytes e ≡ text) ⊎ ((leb 1 (length (abbreviation_bytes e)) ≡ true) × (abbreviation_bytes e ≡ text))
unfolding called_of
called_by e text h =
    ⊎_elim (λ p. inl (same_is (name_bytes e) text p)) (λ p. inr (first_true _ _ p, same_is (abbreviation_bytes e) text (second_true (leb 1 (length (abbreviation_bytes e))) _ p)))
    (either (same_bytes (name_bytes e) text) _ h)

both_called : (e f : Entry) (text : List ℕ) → called_of e text ≡ true → called_of f text ≡ true → shares_of e f ≡ true
unfolding shares_of
both_called e f text h g =
    ⊎_elim
    (λ (p : name_bytes f ≡ text). or_first _ (ap (called_of e) p ∙ h))
    (λ (p : (leb 1 (length (abbreviation_bytes f)) ≡ true) × (abbreviation_bytes f ≡ text)). or_second (called_of e (name_bytes f)) (both p.0 (ap (called_of e) p.1 ∙ h)))
    (called_by f text g)

not_later : (es : List Entry) → Good es → (text : List ℕ) (j k : ℕ) → j < k → k < length es → called_of (entry_at es j) text ≡ true → called_of (entry_at es k) text ≡ true → ⊥
unfolding repeats_at
not_later es g text j k l m h i =
    true≢false
    (sym (both_called (entry_at es j) (entry_at es k) text h i)
    ∙ none_of (λ j. shares_of (entry_at es j) (entry_at es k)) k j (neither (same_bytes (name_bytes (entry_at es k)) (abbreviation_bytes (entry_at es k))) _ (g.single k m)).1 l)

pub called_once : (es : List Entry) → Good es → (text : List ℕ) (j k : ℕ) → j < length es → k < length es
    → called_of (entry_at es j) text ≡ true → called_of (entry_at es k) text ≡ true → j ≡ k
called_once es g text j k l m h i =
    ⊎_elim
    (λ (p : j ≤ k). ⊎_elim (λ e. e) (λ p. absurd (not_later es g text j k p m h i)) (eq-or-lt_of_le p))
    (λ (p : k < j). absurd (not_later es g text k j p l i h))
    (le_or_lt j k)

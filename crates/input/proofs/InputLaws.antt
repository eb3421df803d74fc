-- What a step has, from what `lines::take` and a read leave; and what the next line has, from its steps.
use mathlib.Core.Bool.{Bool, true, false, cond, true≢false}
use mathlib.Core.List.{List}
use mathlib.Core.Path.{◌≡◌, refl, sym, ap, subst, ◌∙◌}
use Prim.Native.Nat.{ℕ, zero, suc, ◌-◌, ◌≤◌, ◌<◌}
use native.Mathlib.Omega.{arith}
use lib.Dec.{eqb, ltb}
use lib.ListN.{length, take}
use borrow.Author.Tests.{eq-eqb, ltb-true, ne_eqb}
use Rattle.std.specs.Prelude.{Option, None, Some}
use Rattle.console.specs.Lines.{Taken, line_at_end}
use Rattle.console.specs.declared.lines.Line.{Line}
use Rattle.console.specs.declared.lines.Line.TheVariants.{More, Whole, Bad}
use Rattle.console.specs.declared.lines.Partial.{Partial}
use Rattle.console.specs.declared.lines.Partial.TheVariants.{Held, Skipped}
use Rattle.console.specs.declared.lines.Piece.{Piece}
use Rattle.input.specs.Input.{Advanced, AllFed, Done, Fed, FoundNext, NextLine, Pieced, Refilled, Stepped, Steps, Waited, at_end, before_step, chunk_rest, filled_by, failed_of, found_of, lines_after, lines_by, no_more, of_piece, some_left, turn_after_read, waits_of}
use Rattle.input.specs.declared.LineOrEnd.{LineOrEnd}
use Rattle.input.specs.declared.Input.{Input}
use Rattle.input.specs.declared.Input.TheVariants.{Open, Ended, Failed}
use Rattle.input.specs.declared.Lines.{Lines}
use Rattle.input.specs.declared.Turn.{Turn}

pub piece_taken : {p : Partial} {at filled : ℕ} {chunk line xs after : List ℕ} {q : Piece} → xs ≡ take filled chunk → Taken xs at line p q after
    → Pieced p at filled chunk line (of_piece filled q) after
unfolding chunk_rest
piece_taken e t = record { turn_is = rw (← e, ← t.piece_is); line_is = rw (← e) t.buffer_is; same_length = t.same_length; whole = t.whole }

-- ---- a read

last_whole : (p : Partial) (m : ℕ) → line_at_end p ≡ Whole m → ⊥
last_whole (Held k) m = pick (ltb 0 k)
  where
    pick : (b : Bool) → cond b Bad More ≡ Whole m → ⊥
    pick true e = cc
    pick false e = cc
last_whole Skipped m = λ e. cc

-- a read makes no whole line
read_whole : (p : Partial) (o : Option ℕ) (m : ℕ) → (turn_after_read p o).line ≡ Whole m → ⊥
unfolding turn_after_read
read_whole p None m e = last_whole p m e
read_whole p (Some n) m e = pick (eqb n 0) e
  where
    pick : (b : Bool) → (cond b (at_end Ended p) (filled_by p n)).line ≡ Whole m → ⊥
    pick true e = last_whole p m e
    pick false e = cc

-- ---- a step

module _ (p : Partial) (at filled : ℕ) {chunk line : List ℕ} {r : Turn} where
  pub stepped_piece : {after : List ℕ} → some_left at filled (length chunk) ≡ true → Pieced p at filled chunk line r after → Stepped (Open p at filled) chunk line r chunk after
  unfolding Done Advanced
  stepped_piece h s = record { done = rw h (s, refl); same_chunk_length = refl; same_line_length = s.same_length; whole = s.whole }

  pub stepped_read : {after : List ℕ} → some_left at filled (length chunk) ≡ false → length after ≡ length chunk → Refilled p (length chunk) r
      → Stepped (Open p at filled) chunk line r after line
  unfolding Done Advanced
  stepped_read h l s =
      record { done = rw h (s, refl); same_chunk_length = l; same_line_length = refl; whole = λ n e. absurd (read_whole p s.count n (rw s.turn_is at e)) }

-- at the end
pub stepped_not : (i : Input) (chunk line : List ℕ) → waits_of (before_step i) ≡ false → Stepped i chunk line (before_step i) chunk line
unfolding Done
stepped_not (Open p at filled) chunk line e = cc
stepped_not Ended chunk line e = record { done = (refl, refl, refl); same_chunk_length = refl; same_line_length = refl; whole = λ n f. cc }
stepped_not Failed chunk line e = record { done = (refl, refl, refl); same_chunk_length = refl; same_line_length = refl; whole = λ n f. cc }

-- ---- lines

-- a step more
pub step_more : (n : ℕ) (i : Input) (chunk line : List ℕ) (t : Turn) (c l : List ℕ) {r : Turn} {chunk_then line_then : List ℕ} → Steps n i chunk line t c l → waits_of t ≡ true
    → Stepped t.input c l r chunk_then line_then → Steps (suc n) i chunk line r chunk_then line_then
unfolding Steps
step_more n i chunk line t c l s h x = record { turn = t; chunk = c; line = l; before = s; waiting = h; step = x }

-- where the input is at its end no step is taken
none_taken : (n : ℕ) (i : Input) (chunk line : List ℕ) (t : Turn) (c l : List ℕ) → waits_of (before_step i) ≡ false → Steps n i chunk line t c l
    → (t ≡ before_step i) × (c ≡ chunk) × (l ≡ line)
unfolding Steps
none_taken zero i chunk line t c l h s = s
none_taken (suc n) i chunk line t c l h s =
    let b = none_taken n i chunk line s.turn s.chunk s.line h s.before in
    absurd (true≢false (sym s.waiting ∙ ap waits_of b.0 ∙ h))

found_whole : (l : Line) (size n : ℕ) → ((m : ℕ) → l ≡ Whole m → m ≤ size) → found_of l ≡ Some n → n ≤ size
found_whole More size n h e = cc
found_whole (Whole m) size n h e = let z : m ≡ n = cc in let k = h m refl in omega arith
found_whole Bad size n h e = let z : 0 ≡ n = cc in omega arith

pub next_found : {i : Input} {chunk line chunk_then line_then : List ℕ} {t : Turn} {o : Option ℕ} → Waited i chunk line t chunk_then line_then → o ≡ found_of t.line
    → FoundNext i chunk line (record { input = t.input; line = o }) chunk_then line_then
next_found {i} {chunk} {line} {chunk_then} {line_then} {t} {o} w e =
    record {
      turn = t;
      waited = w;
      found_is = rw e;
      over = λ h. let n = none_taken w.count i chunk line t chunk_then line_then h w.steps in (rw (e, n.0), n.1, n.2);
      same_chunk_length = w.same_chunk_length;
      same_line_length = w.same_line_length;
      within = λ n f. found_whole t.line (length line_then) n w.whole (sym e ∙ f);
    }

-- what is at hand was found, and counts
module _ (left : ℕ) (i : Input) where
  left_by : (o : Option ℕ) → (lines_by left i o).left ≤ left
  left_by None = omega arith
  left_by (Some n) = by_left (ltb 0 left)
    where
      by_left : (b : Bool) → (cond b (record { input = i; line = Some n; left = left }) (no_more i)).left ≤ left
      by_left true = omega arith
      by_left false = omega arith

  line_by : (o : Option ℕ) (m : ℕ) → (lines_by left i o).line ≡ Some m → (o ≡ Some m) × (0 < (lines_by left i o).left)
  line_by None m e = cc
  line_by (Some n) m e = by_left (ltb 0 left) refl e
    where
      by_left : (b : Bool) → ltb 0 left ≡ b → (cond b (record { input = i; line = Some n; left = left }) (no_more i)).line ≡ Some m
          → (◌≡◌ {A = Option ℕ} (Some n) (Some m)) × (0 < (cond b (record { input = i; line = Some n; left = left }) (no_more i)).left)
      by_left true h f = (f, ltb-true 0 left h)
      by_left false h f = cc

module _ {l r : Lines} {chunk line : List ℕ} where
  pub line_over : l.left ≡ 0 → r ≡ no_more l.input → NextLine l chunk line r chunk line
  line_over h e =
      record {
        over = λ _. (e, refl, refl);
        found = λ f. absurd (true≢false (sym (eq-eqb l.left 0 h) ∙ f));
        ended = λ _. (e, refl, refl);
        same_chunk_length = refl;
        same_line_length = refl;
        within = λ n f. let z : None ≡ Some n = sym (ap (λ x. x.line) e) ∙ f in cc;
        at_hand = λ n f. let z : None ≡ Some n = sym (ap (λ x. x.line) e) ∙ f in cc;
        fewer = rw e (omega arith);
      }

  pub line_found : {chunk_then line_then : List ℕ} {f : LineOrEnd} → (l.left ≡ 0 → ⊥) → FoundNext l.input chunk line f chunk_then line_then
      → r ≡ lines_after (l.left - 1) f → NextLine l chunk line r chunk_then line_then
  line_found {f = f} h x e =
      record {
        over = λ z. absurd (true≢false (sym z ∙ ne_eqb l.left 0 h));
        found = λ _. record { found = f; next = x; lines_is = e };
        ended = λ w. let o = x.over w in (e ∙ ap (lines_after (l.left - 1)) o.0, o.1, o.2);
        same_chunk_length = x.same_chunk_length;
        same_line_length = x.same_line_length;
        within = λ n z. x.within n (line_by (l.left - 1) f.input f.line n (sym (ap (λ y. y.line) e) ∙ z)).0;
        at_hand = λ n z. rw e (line_by (l.left - 1) f.input f.line n (sym (ap (λ y. y.line) e) ∙ z)).1;
        fewer = rw e (left_by (l.left - 1) f.input f.line);
      }

-- ---- lines that are handed on

-- a line that is known by its parts
by_parts : {i : Input} {chunk line chunk_then line_then : List ℕ} {r : LineOrEnd} {o : Option ℕ} → FoundNext i chunk line r chunk_then line_then → r.line ≡ o
    → FoundNext i chunk line (record { input = r.input; line = o }) chunk_then line_then
by_parts {i} {chunk} {line} {chunk_then} {line_then} {r} {o} x e =
    let P : Option ℕ → Type 0 = λ (q : Option ℕ). FoundNext i chunk line (record { input = r.input; line = q }) chunk_then line_then in subst P e x

module _ {F : Type 0} (call : F → List ℕ → F → Type 0) (first : F) (chunk line : List ℕ) (n : ℕ) (state : F) (i : Input) (c l : List ℕ) where
  pub fed_more : {r : LineOrEnd} {state_then : F} {chunk_then line_then : List ℕ} (k : ℕ) → Fed call first chunk line n state i c l → FoundNext i c l r chunk_then line_then
      → r.line ≡ Some k → call state (take k line_then) state_then → Fed call first chunk line (suc n) state_then r.input chunk_then line_then
  unfolding Fed
  fed_more k f x e h =
      record { state_before = state; input = i; chunk = c; line = l; before = f; length = k; found = by_parts x e; called = h }

  pub fed_all : {r : LineOrEnd} {failed : Bool} {chunk_then line_then : List ℕ} → Fed call first chunk line n state i c l → FoundNext i c l r chunk_then line_then
      → r.line ≡ None → failed ≡ failed_of r.input → AllFed call first chunk line failed chunk_then line_then
  fed_all {r} f x e h =
      record {
        count = n;
        last = state;
        input = i;
        chunk_last = c;
        line_last = l;
        fed = f;
        over = λ _. record { end = r.input; found = by_parts x e; failed = h };
      }

-- How a writer ends that has measured its text: it has written it all, or nothing.
use mathlib.Core.Bool.{Bool, true, false, cond, ◌&&◌}
use mathlib.Core.List.{List, ◌++◌}
use Rattle.std.specs.Prelude.{Option, Some, Result, Ok, Err}
use mathlib.Core.Path.{◌≡◌, refl, sym, ap, ◌∙◌}
use Prim.Native.Nat.{ℕ, ◌≤◌}
use native.Mathlib.Nat.{zero-add}
use lib.Dec.{leb}
use lib.ListN.{drop, length}
use borrow.Author.Tests.{leb-true}
use Rattle.common.specs.Answer.{Answer, answer_of, granted, is_granted, refused, refused_by, require}
use Rattle.common.specs.Buffer.{WrittenTo, buffer_of, length_of, overlay}
use Rattle.common.specs.declared.errno.Errno.{Errno}
use Rattle.common.proofs.BoolLaws.{second_true}
use Rattle.common.proofs.BufferLaws.{writes_nothing}
use Rattle.octets.specs.Bytes.{put_at}
use Rattle.octets.specs.Internal.Put.{Put}
use Rattle.text.specs.Write.{RangeWrittenTo, Shown, shown, status_or, text_of}
use Rattle.text.specs.declared.RangeWritten.{RangeWritten}
use Rattle.text.specs.Internal.Measure.{MeasuredText, room_of}
use Rattle.text.proofs.WriteLaws.{room_length}

put_front : (out text : List ℕ) → put_at out 0 text ≡ overlay text out
unfolding put_at
put_front out text = ap (λ (n : ℕ). text ++ drop n out) (zero-add (length text))

-- a text that is named is written exactly if it fits
length_granted : (is_named : Bool) (text : List ℕ) (size : ℕ) → is_granted (length_of (require is_named 2 (granted text)) size) ≡ (is_named && leb (length text) size)
unfolding length_of
length_granted true text size = pick (leb (length text) size)
  where
    pick : (b : Bool) → is_granted (cond b (granted (length text)) (refused 7 (Some (length text)))) ≡ b
    pick true = refl
    pick false = refl
length_granted false text size = refl

buffer_by : (is_named : Bool) (text before : List ℕ) → buffer_of (require is_named 2 (granted text)) before ≡ cond (is_named && leb (length text) (length before)) (overlay text before) before
unfolding buffer_of
buffer_by true text before = refl
buffer_by false text before = refl

module _ {is_named : Bool} {text : List ℕ} {most : ℕ} {m : Option ℕ} (t : MeasuredText is_named text most m) (w : Result ℕ Errno) (before : List ℕ)
    (r : answer_of w ≡ room_of m (length before)) where
  answered : answer_of w ≡ length_of (require is_named 2 (granted text)) (length before)
  answered = r ∙ room_length t (length before)

  told : {v : Result ℕ Errno} → w ≡ v → (is_named && leb (length text) (length before)) ≡ is_granted (answer_of v)
  told e = sym (length_granted is_named text (length before)) ∙ ap is_granted (sym answered ∙ ap answer_of e)

  -- a length is answered
  pub text_fits : {n : ℕ} → w ≡ Ok n → length text ≤ length before
  text_fits e = leb-true (length text) (length before) (second_true is_named _ (told e))

  -- where the text was put, the buffer is as it should be
  pub text_written : {n k : ℕ} {after : List ℕ} → w ≡ Ok n → Put before 0 text k after → WrittenTo (Ok n) (require is_named 2 (granted text)) before after
  text_written e p = record { answer = ap answer_of (sym e) ∙ answered; buffer = p.written ∙ put_front before text ∙ sym (buffer_by is_named text before ∙ rw (told e)) }

  -- where nothing was, so is it
  pub nothing_written : {e : Errno} {after : List ℕ} → w ≡ Err e → after ≡ before → WrittenTo (Err e) (require is_named 2 (granted text)) before after
  nothing_written h a = record { answer = ap answer_of (sym h) ∙ answered; buffer = a ∙ sym (buffer_by is_named text before ∙ rw (told h)) }

-- ---- what was written, by another account of the same text

pub written_same : {w : Result ℕ Errno} {x y : Answer (List ℕ)} {before after : List ℕ} → WrittenTo w x before after → y ≡ x → WrittenTo w y before after
written_same h e = rw e h

-- ---- a range, with its status beside what was written

module _ (is_named : Bool) (text : List ℕ) (status : ℕ) where
  text_shown : text_of (shown is_named status text) ≡ require is_named 2 (granted text)
  text_shown = pick is_named
    where
      pick : (b : Bool) → text_of (shown b status text) ≡ require b 2 (granted text)
      pick true = refl
      pick false = refl

  module _ {w : Result ℕ Errno} {before after : List ℕ} (h : WrittenTo w (require is_named 2 (granted text)) before after) where
    told_by : {v : Result ℕ Errno} → w ≡ v → is_granted (length_of (text_of (shown is_named status text)) (length before)) ≡ is_granted (answer_of v)
    told_by e = rw text_shown (ap is_granted (sym h.answer ∙ ap answer_of e))

    pub range_written_lem : {n : ℕ} → w ≡ Ok n → RangeWrittenTo (Ok (record { length = n; status = status })) (shown is_named status text) before after
    unfolding length_of
    range_written_lem {n} e = record { written = rw text_shown (rw e at h); status = rw (told_by e) (pick is_named (ap is_granted (sym (rw e at h).answer))) }
      where
        pick : (b : Bool) → is_granted (length_of (require b 2 (granted text)) (length before)) ≡ true → status ≡ status_or true (shown b status text)
        pick true q = refl
        pick false q = cc

    pub range_refused_lem : {e : Errno} → w ≡ Err e → RangeWrittenTo (Err e) (shown is_named status text) before after
    range_refused_lem e = record { written = rw text_shown (rw e at h); status = rw (told_by e) }

pub range_refusal : (e : Errno) (x : Answer Shown) (before after : List ℕ) → x ≡ refused_by e → after ≡ before → RangeWrittenTo (Err e) x before after
unfolding length_of
range_refusal e x before after h a =
    rw h (record { written = writes_nothing e (refused_by e) before after refl a; status = refl })

pub range_same : {r : Result RangeWritten Errno} {x y : Answer Shown} {before after : List ℕ} → RangeWrittenTo r x before after → y ≡ x → RangeWrittenTo r y before after
range_same h e = rw e h

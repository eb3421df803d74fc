-- A body that is too long, and a buffer that is too short, write nothing. Else the digits of the body, those of the check byte (`check_of`) and
-- the LF together are the frame (`frame_more`).
use Rattle.std.proofs.Common.{ℕ, ◌+◌, ◌*◌, ◌/◌, ◌%◌, List, length, set, sym, refl, ap, ◌∙◌, arith, le-leb}
use borrow.Author.Tests.{lt-leb}
use Rattle.common.specs.declared.errno.Errno.TheVariants.{Invalid}
use Rattle.common.proofs.AnswerLaws.{passed, stopped}
use Rattle.common.proofs.BufferLaws.{too_short, writes, writes_nothing}
use Rattle.frame.specs.Frame.{digit_of, frame_of, max_body}
use Rattle.frame.proofs.FrameLaws.{frame_length}
use Rattle.frame.proofs.FrameLoops.{check_of, frame_more}
use Rattle.frame.proofs.write.Goals as goal

pub returns-then-n-gt-MAX_BODY : goal.returns-then-n-gt-MAX_BODY
returns-then-n-gt-MAX_BODY c = writes_nothing Invalid _ _ _ (stopped _ 22 _ (lt-leb _ max_body c.if-n-gt-MAX_BODY.true)) refl

pub returns-then-out-length : goal.returns-then-out-length
returns-then-out-length c =
    let body = c.args.body.now in
    let n = frame_length body in
    too_short (frame_of body) _ _ _ (passed _ 22 _ (le-leb (length body) max_body c.if-n-gt-MAX_BODY.false)) _ (sym n) (omega arith) refl

pub returns : goal.returns
returns c =
    let body = c.args.body.now in
    let out = c.args.out.now in
    let n = length body in
    let b = c.wrapping_neg.result in
    let e = check_of body c.spell-s.result b c.spell-s.ensures.value (omega arith) c.wrapping_neg.ensures in
    let len = frame_length body in
    let two = c.put.ensures ∙ ap (λ (l : List ℕ). set (set l (2 * n) (digit_of (b / 16))) (2 * n + 1) (digit_of (b % 16))) c.spell-s.ensures.out_after in
    writes (frame_of body) _ out _ (passed _ 22 _ (le-leb n max_body c.if-n-gt-MAX_BODY.false)) _ (sym len) (omega arith)
    (ap (λ (l : List ℕ). set l (2 * n + 2) 10) two ∙ frame_more body out b (2 * n) refl e (omega arith))

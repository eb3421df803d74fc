-- A change that is made to a state is the call that decided it, and a refused call hands back the very state that was passed.
use Rattle.std.specs.Prelude.{Option, Result, Ok, Err, IfOk}
use Rattle.common.specs.declared.errno.Errno.{Errno}
use mathlib.Core.Path.{◌≡◌, refl, ◌∙◌}
use Prim.Native.Nat.{ℕ, ◌<◌}
use borrow.Author.Tests.{lt-leb}
use Rattle.common.specs.Answer.{refused}
use Rattle.segments.specs.Calls.{Decides, applied, step_of}
use Rattle.segment_table.specs.Replies.{leaving}
use Rattle.segment_table.specs.Segments.{slot_total}
use Rattle.segments.specs.declared.Call.{Call}
use Rattle.segments.specs.declared.Change.{Change}
use Rattle.segment_table.specs.declared.SegmentTable.{SegmentTable}
use Rattle.segments.proofs.CallsLaws.{refused_next}
use Rattle.segments.proofs.DecidesLaws.{decides_results, decides_slot}
use Rattle.abi.specs.Outcome as outcomes
use Rattle.abi.specs.declared.outcome.COutcome.{COutcome}
use Rattle.abi.proofs.AnswerLaws.{call_answered}

pub applied_back : (s : SegmentTable) (x : Result Change Errno) → IfOk x (λ (c : Change). c.slot.0 < slot_total) → outcomes.applied_to s x ≡ outcomes.handed_back (applied s x)
applied_back s (Ok c) l = rw (lt-leb slot_total c.slot.0 l)
applied_back s (Err e) l = refl

pub call_applied : (s : SegmentTable) (c : Call) (x : Result Change Errno) {o : COutcome} → Decides s c x
    → (IfOk x (λ (c : Change). c.slot.0 < slot_total) → o ≡ outcomes.handed_back (applied s x)) → o ≡ outcomes.step_outcome (step_of s c)
call_applied s c x d h = h (in_slot x d) ∙ call_answered (decides_results s c x d)
  where
    in_slot : (x : Result Change Errno) → Decides s c x → IfOk x (λ (y : Change). y.slot.0 < slot_total)
    in_slot (Ok y) d = decides_slot s c d
    in_slot (Err e) d = tt

-- every number of it: of a tenant's call, and of an operator's
pub call_refused_keeps : (s : SegmentTable) (c : Call) (n : ℕ) (detail : Option ℕ) → (step_of s c).answer ≡ refused n detail → (outcomes.step_outcome (step_of s c)).state ≡ s
call_refused_keeps s c n detail e = refused_next s c n detail e

pub refused_keeps : (s next : SegmentTable) (n : ℕ) (detail : Option ℕ) → (outcomes.step_outcome (leaving s next (refused n detail))).state ≡ s
refused_keeps s next n detail = refl

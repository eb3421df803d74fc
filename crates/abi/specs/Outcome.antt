-- What a call on a state hands back to C.
use Rattle.std.specs.Prelude.{cond, ℕ, leb, Result, Ok, Err}
use Rattle.common.specs.Answer as answers
use Rattle.common.specs.declared.errno.Errno.{Errno}
use Rattle.segment_table.specs.Replies.{Step}
use Rattle.segment_table.specs.declared.Reply.{Reply as Grant}
use Rattle.segment_table.specs.declared.Reply.TheVariants.{Done as done, Opened as opened, Shown as shown}
use Rattle.segment_table.specs.Segments as core
use Rattle.segments.specs.declared.Change.{Change}
use Rattle.segment_table.specs.declared.CallOutcome as core_outcome
use Rattle.segment_table.specs.declared.Segment.{Segment}
use Rattle.segment_table.specs.declared.SegmentTable.{SegmentTable}
use Rattle.abi.specs.Answer.{grant, numbered, refusal_by}
use Rattle.abi.specs.declared.answer.CAnswer.{CAnswer}
use Rattle.abi.specs.declared.outcome.COutcome.{COutcome}

-- ---- what a call hands back: the state, the answer, and what a look shows

abbrev pub outcome : SegmentTable → CAnswer → Segment → COutcome
outcome s a x = record { state = s; answer = a; shown = x }

-- an open answers its slot; the others have no number to answer
abbrev pub grant_number : Grant → ℕ
grant_number done = 0
grant_number (opened p) = p.0
grant_number (shown x) = 0

-- what a look shows; zeros beside any other answer
abbrev pub shown_of : answers.Answer Grant → Segment
shown_of (answers.granted done) = core.zero_segment
shown_of (answers.granted (opened p)) = core.zero_segment
shown_of (answers.granted (shown x)) = x
shown_of (answers.refused n detail) = core.zero_segment

abbrev pub step_outcome : Step → COutcome
step_outcome x = outcome x.table (numbered grant_number x.answer) (shown_of x.answer)

-- ---- what the code's outcome says. For functions that are not exported

abbrev pub handed_back : core_outcome.CallOutcome → COutcome
handed_back o = outcome o.table (numbered grant_number (answers.answer_of o.answer)) (shown_of (answers.answer_of o.answer))

-- what a call hands back that makes this change, if it is no refusal and there is such a slot
abbrev pub applied_to : SegmentTable → Result Change Errno → COutcome
applied_to s (Ok c) = outcome (cond (leb core.slot_total c.slot.0) s (core.with_segment s c.slot c.segment)) (grant (grant_number c.reply)) (shown_of (answers.granted c.reply))
applied_to s (Err e) = outcome s (refusal_by e) core.zero_segment

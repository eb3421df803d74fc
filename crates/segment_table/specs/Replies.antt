-- What a call on the state answers, and the state that it leaves.
use Rattle.std.specs.Prelude.{◌≡◌}
use Rattle.common.specs.Answer as answers
use Rattle.segment_table.specs.declared.CallOutcome.{CallOutcome}
use Rattle.segment_table.specs.declared.SegmentTable.{SegmentTable}
-- what a grant answers: an open its slot, a look the three things shown, the others nothing more
pub use Rattle.segment_table.specs.declared.Reply.{Reply as Grant}
pub use Rattle.segment_table.specs.declared.Reply.TheVariants.{Done as done, Opened as opened, Shown as shown}

-- a state and an answer
pub record Step : Type 0 where
  pub table : SegmentTable
  pub answer : answers.Answer Grant

-- a grant leaves the state that it makes; a refusal leaves the state as it was
abbrev pub left : SegmentTable → SegmentTable → answers.Answer Grant → SegmentTable
left s next (answers.granted g) = next
left s next (answers.refused n detail) = s

abbrev pub leaving : SegmentTable → SegmentTable → answers.Answer Grant → Step
leaving s next a = record { table = left s next a; answer = a }

-- the code's outcome is x, whole
pub record Results (o : CallOutcome) (x : Step) : Type 0 where
  pub table : o.table ≡ x.table
  pub answer : answers.answer_of o.answer ≡ x.answer

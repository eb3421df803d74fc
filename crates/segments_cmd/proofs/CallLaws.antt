-- What a request leaves of a call's outcome.
use mathlib.Core.Path.{◌≡◌, ap, ◌∙◌}
use Rattle.segment_table.specs.declared.CallOutcome.{CallOutcome}
use Rattle.segment_table.specs.declared.SegmentTable.{SegmentTable}
use Rattle.segments_cmd.specs.Session.{between}
use Rattle.segments_cmd.specs.declared.session.Session.{Session}

-- a session after an outcome is printed
pub replied : (q : Session) (o : CallOutcome) (s : SegmentTable) → q ≡ between o.table → o.table ≡ s → q ≡ between s
replied q o s e h = e ∙ ap between h

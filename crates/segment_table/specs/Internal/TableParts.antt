-- For contracts of functions that are not public: the pool's room for a ceiling, and the outcome of a call.
use Rattle.std.specs.Prelude.{ℕ, ◌+◌, ◌-◌, leb, Result}
use Rattle.common.specs.Answer.{Answer, granted, require}
use Rattle.common.specs.declared.errno.Errno.{Errno}
use Rattle.segment_table.specs.Replies.{Grant, Results, Step, done}
use Rattle.segment_table.specs.Segments.{ceiling_at}
use Rattle.segment_table.specs.Slots.{ceilings_of}
use Rattle.segment_table.specs.declared.SegmentTable.{SegmentTable}
use Rattle.segment_table.specs.declared.TenantId.{TenantId}

-- whether the pool has room for the ceiling n in place of t's: 12 if not
abbrev pub pool_answer : SegmentTable → TenantId → ℕ → Answer Grant
pool_answer s t n = require (leb (ceilings_of s - ceiling_at s t + n) s.pool) 12 (granted done)

-- the state that a call leaves, and its answer, are x
abbrev pub Left : SegmentTable → Result Grant Errno → Step → Type 0
Left s r x = Results (record { table = s; answer = r }) x

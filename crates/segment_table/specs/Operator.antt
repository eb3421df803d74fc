-- Document 01, "The board": the operator's calls.
use Rattle.std.specs.Prelude.{not, ◌&&◌, ℕ, ◌+◌, ◌-◌, leb, ltb}
use Rattle.common.specs.Answer.{Answer, granted, require}
use Rattle.range.specs.Tuple
use Rattle.range.specs.declared.tuple.Tuple.{Tuple}
use Rattle.segment_table.specs.Replies.{Grant, Step, done, leaving}
use Rattle.segment_table.specs.Segments.{ceiling_at, clearance_at, empty_table, pages_valid, tenant_of, tenant_total, with_tenant}
use Rattle.segment_table.specs.Slots.{ceilings_of, pages_of}
use Rattle.segment_table.specs.Sound.{admitted, sound}
use Rattle.segment_table.specs.declared.SegmentTable.{SegmentTable}
use Rattle.segment_table.specs.declared.TenantId.{TenantId}

-- pool out of bounds: 22
unfoldable pub make_answer : ℕ → Answer Grant
make_answer pool = require (pages_valid pool) 22 (granted done)

-- a state with no tenants; a refused make gives a state of zeros
unfoldable pub make_of : ℕ → Step
make_of pool = leaving (empty_table 0) (empty_table pool) (make_answer pool)

-- bad number, invalid or empty tuple, ceiling 0: 22; already admitted: 16; ceilings over the pool: 12
unfoldable pub admit_answer : SegmentTable → TenantId → ℕ → Tuple → Answer Grant
admit_answer s t ceiling clearance =
    require (sound s) 22
    (require (ltb t.0 tenant_total && Tuple.valid_of clearance && not (Tuple.empty_of clearance) && leb 1 ceiling) 22
    (require (not (admitted s t)) 16
    (require (leb (ceilings_of s + ceiling) s.pool) 12
    (granted done))))

unfoldable pub admit_of : SegmentTable → TenantId → ℕ → Tuple → Step
admit_of s t ceiling clearance = leaving s (with_tenant s t (tenant_of ceiling clearance)) (admit_answer s t ceiling clearance)

-- tenant not there, or 0: 22; below pages in use: 16; over the pool: 12
unfoldable pub set_ceiling_answer : SegmentTable → TenantId → ℕ → Answer Grant
set_ceiling_answer s t ceiling =
    require (sound s) 22
    (require (admitted s t && leb 1 ceiling) 22
    (require (leb (pages_of s t) ceiling) 16
    (require (leb (ceilings_of s - ceiling_at s t + ceiling) s.pool) 12
    (granted done))))

unfoldable pub set_ceiling_of : SegmentTable → TenantId → ℕ → Step
set_ceiling_of s t ceiling = leaving s (with_tenant s t (tenant_of ceiling (clearance_at s t))) (set_ceiling_answer s t ceiling)

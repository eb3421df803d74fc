-- Document 01, "The board" (here the state, a segment table): its sizes, and what it holds by tenant and by slot. A slot is document 01's
-- place, a version its edition.
use Rattle.std.specs.Prelude.{Bool, ◌&&◌, List, [], ℕ, leb, get_or, replicate, set}
use Rattle.label.specs.Label
use Rattle.label.specs.declared.Label.{Label}
use Rattle.range.specs.Tuple
use Rattle.range.specs.declared.tuple.Tuple.{Tuple}
use Rattle.segment_table.specs.declared.Segment.{Segment}
use Rattle.segment_table.specs.declared.SegmentTable.{SegmentTable}
use Rattle.segment_table.specs.declared.Slot.{Slot}
use Rattle.segment_table.specs.declared.Tenant.{Tenant}
use Rattle.segment_table.specs.declared.TenantId.{TenantId}

-- tenants 0 to 7
abbrev pub tenant_total : ℕ
tenant_total = 8

-- slots 0 to 63
abbrev pub slot_total : ℕ
slot_total = 64

-- the greatest pool, and the most pages that a call may name
abbrev pub max_pages : ℕ
max_pages = 1048576

-- 1 to 1,048,576 pages
abbrev pub pages_valid : ℕ → Bool
pages_valid n = leb 1 n && leb n max_pages

abbrev pub tenant_id : ℕ → TenantId
tenant_id n = record { 0 = n }

abbrev pub slot : ℕ → Slot
slot n = record { 0 = n }

abbrev pub tenant_of : ℕ → Tuple → Tenant
tenant_of ceiling clearance = record { ceiling = ceiling; clearance = clearance }

abbrev pub segment_of : Label → ℕ → ℕ → Segment
segment_of l pages version = record { label = l; pages = pages; version = version }

abbrev pub table_of : ℕ → List Tenant → List Segment → SegmentTable
table_of pool ts xs = record { pool = pool; tenants = ts; segments = xs }

-- a tenant that is not admitted and a slot that is empty hold zeros
abbrev pub zero_tenant : Tenant
zero_tenant = tenant_of 0 Tuple.empty_tuple

abbrev pub zero_segment : Segment
zero_segment = segment_of Label.zero_label 0 0

-- a state with no tenants
abbrev pub empty_table : ℕ → SegmentTable
empty_table pool = table_of pool (replicate tenant_total zero_tenant) (replicate slot_total zero_segment)

-- what stands past the end of an array of these: no tenant and no slot has it
abbrev pub no_tenant : Tenant
no_tenant = tenant_of 0 (Tuple.tuple_of [])

abbrev pub no_segment : Segment
no_segment = segment_of (Label.label_of 0 []) 0 0

abbrev pub tenant_at : SegmentTable → TenantId → Tenant
tenant_at s t = get_or s.tenants t.0 no_tenant

abbrev pub ceiling_at : SegmentTable → TenantId → ℕ
ceiling_at s t = (tenant_at s t).ceiling

abbrev pub clearance_at : SegmentTable → TenantId → Tuple
clearance_at s t = (tenant_at s t).clearance

abbrev pub segment_at : SegmentTable → Slot → Segment
segment_at s p = get_or s.segments p.0 no_segment

abbrev pub pages_at : SegmentTable → Slot → ℕ
pages_at s p = (segment_at s p).pages

-- the state with another record for a tenant, or another segment in a slot
abbrev pub with_tenant : SegmentTable → TenantId → Tenant → SegmentTable
with_tenant s t x = table_of s.pool (set s.tenants t.0 x) s.segments

abbrev pub with_segment : SegmentTable → Slot → Segment → SegmentTable
with_segment s p x = table_of s.pool s.tenants (set s.segments p.0 x)

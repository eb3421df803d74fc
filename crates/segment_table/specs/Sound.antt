-- Document 01, "The board": when a state is sound.
use Rattle.std.specs.Prelude.{Bool, cond, not, ◌&&◌, eqb, leb, ltb, length}
use Rattle.common.specs.Index.{some_below, every}
use Rattle.label.specs.Label
use Rattle.range.specs.Tuple
use Rattle.segment_table.specs.Segments.{ceiling_at, clearance_at, pages_valid, segment_at, slot, slot_total, tenant_at, tenant_id, tenant_total}
use Rattle.segment_table.specs.Slots.{ceilings_of, filled, owns, pages_of}
use Rattle.segment_table.specs.declared.Segment.{Segment}
use Rattle.segment_table.specs.declared.SegmentTable.{SegmentTable}
use Rattle.segment_table.specs.declared.Slot.{Slot}
use Rattle.segment_table.specs.declared.Tenant.{Tenant}
use Rattle.segment_table.specs.declared.TenantId.{TenantId}

-- whether t is admitted: it has a ceiling of at least 1
unfoldable pub admitted : SegmentTable → TenantId → Bool
admitted s t = ltb t.0 tenant_total && leb 1 (ceiling_at s t)

-- an admitted tenant has a valid, non-empty clearance; one not admitted holds zeros, as an empty valid tuple does
unfoldable pub tenant_sound : Tenant → Bool
tenant_sound x = Tuple.valid_of x.clearance && cond (leb 1 x.ceiling) (not (Tuple.empty_of x.clearance)) (Tuple.empty_of x.clearance)

-- whether p is owned by t and holds a label in t's clearance
unfoldable pub cleared_by : SegmentTable → Slot → TenantId → Bool
cleared_by s p t = owns s t p && Tuple.contains_of (clearance_at s t) (segment_at s p).label

-- a segment of zeros, as an empty slot holds
unfoldable pub is_zero_segment : Segment → Bool
is_zero_segment x = Label.equal_of x.label Label.zero_label && eqb x.pages 0 && eqb x.version 0

-- a filled slot holds a label in its owner's clearance; an empty one holds zeros
unfoldable pub slot_sound : SegmentTable → Slot → Bool
slot_sound s p = cond (filled s p) (some_below (λ t. cleared_by s p (tenant_id t)) tenant_total) (is_zero_segment (segment_at s p))

-- t's pages are at most its ceiling
unfoldable pub under_ceiling : SegmentTable → TenantId → Bool
under_ceiling s t = leb (pages_of s t) (ceiling_at s t)

-- a record for each tenant and a segment for each slot, as every state has that a program can hold
abbrev pub well_sized : SegmentTable → Bool
well_sized s = eqb (length s.tenants) tenant_total && eqb (length s.segments) slot_total

unfoldable pub sound : SegmentTable → Bool
sound s =
    well_sized s
    && pages_valid s.pool
    && every (λ t. tenant_sound (tenant_at s (tenant_id t))) tenant_total
    && every (λ p. slot_sound s (slot p)) slot_total
    && leb (ceilings_of s) s.pool
    && every (λ t. under_ceiling s (tenant_id t)) tenant_total

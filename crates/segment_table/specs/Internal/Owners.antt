-- For contracts of functions that are not public: whose a slot is, and a tenant's own slots.
use Rattle.std.specs.declared.ops.Range.{Range}
use Rattle.std.specs.Prelude.{cond, ltb, true, false, ◌≡◌, ℕ, ◌+◌, ◌<◌, Option, Some, None, List, slice_range}
use Rattle.common.specs.Index.{some_below}
use Rattle.segment_table.specs.Segments.{tenant_id, tenant_total}
use Rattle.segment_table.specs.Slots.{first_slot, owns, slot_count}
use Rattle.segment_table.specs.declared.Segment.{Segment}
use Rattle.segment_table.specs.declared.SegmentTable.{SegmentTable}
use Rattle.segment_table.specs.declared.Slot.{Slot}
use Rattle.segment_table.specs.declared.TenantId.{TenantId}

-- r says whose slot p is: a tenant's, or nobody's
abbrev pub Owned : SegmentTable → Slot → Option TenantId → Type 0
Owned s p (Some t) = (t.0 < tenant_total) × (owns s t p ≡ true)
Owned s p None = some_below (λ t. owns s (tenant_id t) p) tenant_total ≡ false

-- the numbers of t's own slots, if t is a tenant's number
abbrev pub own_range : SegmentTable → TenantId → Option (Range ℕ)
own_range s t = cond (ltb t.0 tenant_total) (Some (record { start = (first_slot s t).0; end = (first_slot s t).0 + slot_count s t })) None

-- what they hold
abbrev pub own_list : SegmentTable → TenantId → List Segment
own_list s t = slice_range s.segments (first_slot s t).0 ((first_slot s t).0 + slot_count s t)

abbrev pub own_segments : SegmentTable → TenantId → Option (List Segment)
own_segments s t = cond (ltb t.0 tenant_total) (Some (own_list s t)) None

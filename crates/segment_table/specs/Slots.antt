-- Document 01, "The board": whose a slot is, which slots are filled, and a tenant's pages.
use Rattle.std.specs.Prelude.{Bool, cond, not, ◌&&◌, ℕ, ◌+◌, ◌*◌, leb, ltb, Option, None, Some}
use Rattle.common.specs.Index.{first_from, sum_from}
use Rattle.segment_table.specs.Segments.{ceiling_at, pages_at, slot, tenant_id, tenant_total}
use Rattle.segment_table.specs.declared.SegmentTable.{SegmentTable}
use Rattle.segment_table.specs.declared.Slot.{Slot}
use Rattle.segment_table.specs.declared.TenantId.{TenantId}

-- tenant t owns slots 8t to 8t+7: the first, and how many. Nothing else knows this.
unfoldable pub first_slot : SegmentTable → TenantId → Slot
first_slot s t = slot (8 * t.0)

unfoldable pub slot_count : SegmentTable → TenantId → ℕ
slot_count s t = 8

-- whether slot p is tenant t's own
unfoldable pub owns : SegmentTable → TenantId → Slot → Bool
owns s t p = ltb t.0 tenant_total && leb (first_slot s t).0 p.0 && ltb p.0 ((first_slot s t).0 + slot_count s t)

-- a filled slot has at least 1 page
unfoldable pub filled : SegmentTable → Slot → Bool
filled s p = leb 1 (pages_at s p)

abbrev pub empty_at : SegmentTable → ℕ → Bool
empty_at s p = not (filled s (slot p))

abbrev pub as_slot : Option ℕ → Option Slot
as_slot None = None
as_slot (Some p) = Some (slot p)

-- the lowest empty slot of t's own, if there is one
unfoldable pub lowest_empty : SegmentTable → TenantId → Option Slot
lowest_empty s t = cond (ltb t.0 tenant_total) (as_slot (first_from (empty_at s) (first_slot s t).0 (slot_count s t))) None

-- a tenant's open pages: the sum of the pages at its slots
unfoldable pub pages_of : SegmentTable → TenantId → ℕ
pages_of s t = sum_from (λ p. pages_at s (slot p)) (first_slot s t).0 (slot_count s t)

-- the sum of the ceilings
unfoldable pub ceilings_of : SegmentTable → ℕ
ceilings_of s = sum_from (λ t. ceiling_at s (tenant_id t)) 0 tenant_total

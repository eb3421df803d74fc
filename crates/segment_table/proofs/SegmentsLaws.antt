-- What a state holds after a segment or a tenant's record in it is replaced.
use mathlib.Core.List.{List}
use mathlib.Core.Path.{◌≡◌, sym, ap, ap₂, ◌∙◌}
use Prim.Native.Nat.{◌<◌}
use native.Mathlib.Omega.{arith}
use lib.ListN.{length, length-set}
use lib.Seq.{ext_get_or, get_or-set_other, get_or-set_same, set-get_or}
use Rattle.segment_table.specs.Segments.{segment_at, slot, slot_total, table_of, tenant_at, tenant_total, with_segment, with_tenant}
use Rattle.segment_table.specs.declared.Segment.{Segment}
use Rattle.segment_table.specs.declared.SegmentTable.{SegmentTable}
use Rattle.segment_table.specs.declared.Slot.{Slot}
use Rattle.segment_table.specs.declared.Tenant.{Tenant}
use Rattle.segment_table.specs.declared.TenantId.{TenantId}

-- a record for each tenant and a segment for each slot
pub record Lengths (s : SegmentTable) : Type 0 where
  pub tenants_are : length s.tenants ≡ tenant_total
  pub segments_are : length s.segments ≡ slot_total

module _ (s : SegmentTable) where
  pub segment_written : (p : Slot) (x : Segment) → Lengths s → p.0 < slot_total → segment_at (with_segment s p x) p ≡ x
  segment_written p x l h = let k = l.segments_are in get_or-set_same s.segments p.0 x _ (omega arith)

  pub segment_kept : (p q : Slot) (x : Segment) → (q.0 ≡ p.0 → ⊥) → segment_at (with_segment s p x) q ≡ segment_at s q
  segment_kept p q x h = get_or-set_other s.segments p.0 q.0 x _ h

  pub segment_same : (p : Slot) → with_segment s p (segment_at s p) ≡ s
  segment_same p = ap (table_of s.pool s.tenants) (set-get_or s.segments p.0 _)

  pub lengths_kept : (p : Slot) (x : Segment) → Lengths s → Lengths (with_segment s p x)
  lengths_kept p x l = record { tenants_are = l.tenants_are; segments_are = length-set s.segments p.0 x ∙ l.segments_are }

  pub lengths_stay : (t : TenantId) (x : Tenant) → Lengths s → Lengths (with_tenant s t x)
  lengths_stay t x l = record { tenants_are = length-set s.tenants t.0 x ∙ l.tenants_are; segments_are = l.segments_are }

  pub tenant_written : (t : TenantId) (x : Tenant) → Lengths s → t.0 < tenant_total → tenant_at (with_tenant s t x) t ≡ x
  tenant_written t x l h = let k = l.tenants_are in get_or-set_same s.tenants t.0 x _ (omega arith)

  pub tenant_kept : (t u : TenantId) (x : Tenant) → (u.0 ≡ t.0 → ⊥) → tenant_at (with_tenant s t x) u ≡ tenant_at s u
  tenant_kept t u x h = get_or-set_other s.tenants t.0 u.0 x _ h

-- states with the same records have the same record for each tenant
pub tenant_same : (s u : SegmentTable) (t : TenantId) → s.tenants ≡ u.tenants → tenant_at s t ≡ tenant_at u t
tenant_same s u t e = ap (λ (ts : List Tenant). tenant_at (table_of 0 ts s.segments) t) e

-- states with the same pool, the same records and the same segment in each slot are the same
pub same_table : (s u : SegmentTable) → Lengths s → Lengths u → s.pool ≡ u.pool → s.tenants ≡ u.tenants
    → ((p : Slot) → p.0 < slot_total → segment_at s p ≡ segment_at u p) → s ≡ u
same_table s u l m e f h =
    let a = l.segments_are in
    let g : s.segments ≡ u.segments = ext_get_or _ s.segments u.segments (l.segments_are ∙ sym m.segments_are) (λ i b. h (slot i) (omega arith)) in
    ap (λ n. table_of n s.tenants s.segments) e ∙ ap₂ (table_of u.pool) f g

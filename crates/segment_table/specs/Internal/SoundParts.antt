-- For contracts of functions that are not public: the parts of a sound state that they test by themselves.
use Rattle.std.specs.Prelude.{Bool, cond, ◌&&◌, ℕ, leb}
use Rattle.common.specs.Index.{every, some_below}
use Rattle.label.specs.declared.Label.{Label}
use Rattle.range.specs.Tuple
use Rattle.segment_table.specs.Segments.{clearance_at, slot, slot_total, tenant_at, tenant_id, tenant_total}
use Rattle.segment_table.specs.Slots.{owns}
use Rattle.segment_table.specs.Sound.{is_zero_segment, slot_sound, tenant_sound, under_ceiling}
use Rattle.segment_table.specs.declared.Segment.{Segment}
use Rattle.segment_table.specs.declared.SegmentTable.{SegmentTable}
use Rattle.segment_table.specs.declared.Slot.{Slot}

abbrev pub tenants_sound : SegmentTable → Bool
tenants_sound s = every (λ t. tenant_sound (tenant_at s (tenant_id t))) tenant_total

-- whether tenant t owns slot p and l is in its clearance
abbrev pub clears : SegmentTable → Slot → Label → ℕ → Bool
clears s p l t = owns s (tenant_id t) p && Tuple.contains_of (clearance_at s (tenant_id t)) l

-- whether slot p may hold x
abbrev pub held : SegmentTable → Slot → Segment → Bool
held s p x = cond (leb 1 x.pages) (some_below (clears s p x.label) tenant_total) (is_zero_segment x)

abbrev pub slots_sound : SegmentTable → Bool
slots_sound s = every (λ p. slot_sound s (slot p)) slot_total

abbrev pub ceilings_kept : SegmentTable → Bool
ceilings_kept s = every (λ t. under_ceiling s (tenant_id t)) tenant_total

-- What the checks of the calls' code tell, and what a decision that is the call's does.
use mathlib.Core.Bool.{Bool, true, ◌&&◌}
use mathlib.Core.Path.{◌≡◌, refl, sym}
use Prim.Native.Nat.{ℕ, ◌+◌, ◌-◌, ◌<◌, ◌≤◌}
use borrow.Author.Tests.{lt-ltb}
use lib.Dec.{leb, ltb}
use Rattle.std.specs.Prelude.{Result, Ok, Err}
use Rattle.common.specs.Answer.{answer_by}
use Rattle.common.specs.declared.errno.Errno.{Errno}
use Rattle.segments.specs.Calls.{Decides, answered_by, applied, effect_of, step_of, table_by, writable}
use Rattle.segments.specs.Internal.CallParts.{Started}
use Rattle.segment_table.specs.Limits.{fits_in, limit_left}
use Rattle.segment_table.specs.Replies.{Results}
use Rattle.segment_table.specs.Segments.{ceiling_at, pages_at, slot_total, tenant_total}
use Rattle.segment_table.specs.Slots.{pages_of}
use Rattle.segments.specs.declared.Call.{Call}
use Rattle.segments.specs.declared.Change.{Change}
use Rattle.segment_table.specs.declared.SegmentTable.{SegmentTable}
use Rattle.segment_table.specs.declared.Slot.{Slot}
use Rattle.segments.proofs.CallsLaws.{call_tenant, granted_passed, valid_slot, writable_own}
use Rattle.segment_table.proofs.LimitLaws.{fits_exact, fits_more}
use Rattle.segment_table.proofs.SlotsLaws.{own_pages}
use Rattle.segment_table.proofs.SoundLaws.{sound_parts}

-- ---- the room for a call that has passed the first checks

-- whether its tenant's pages may be n, where they take the place of others
abbrev pub has_room : SegmentTable → Call → ℕ → ℕ → Bool
has_room s c replaced n = ltb c.tenant.0 tenant_total && fits_in (limit_left (ceiling_at s c.tenant) (pages_of s c.tenant)) replaced n

module _ (s : SegmentTable) (c : Call) (n : ℕ) (w : Started s c) where
  in_ceiling : pages_of s c.tenant ≤ ceiling_at s c.tenant
  in_ceiling = (sound_parts s w.sound).pages c.tenant (call_tenant s c w.valid)

  pub open_room : has_room s c 0 n ≡ leb (pages_of s c.tenant + n) (ceiling_at s c.tenant)
  open_room = rw (lt-ltb _ tenant_total (call_tenant s c w.valid)) (fits_more _ _ _ in_ceiling)

  pub size_room : (p : Slot) → writable s c.tenant c.label p ≡ true → has_room s c (pages_at s p) n ≡ leb (pages_of s c.tenant - pages_at s p + n) (ceiling_at s c.tenant)
  size_room p e =
      rw (lt-ltb _ tenant_total (call_tenant s c w.valid))
      (fits_exact _ _ _ _ in_ceiling (own_pages s c.tenant p (writable_own s c.tenant c.label p e).0))

-- ---- a decision

module _ (s : SegmentTable) (c : Call) where
  -- the slot that a granted call changes is one
  pub decides_slot : {x : Change} → Decides s c (Ok x) → x.slot.0 < slot_total
  decides_slot {x} d =
      let r = granted_passed s c.tenant c.label c.action (effect_of x) (sym d) in
      valid_slot s c.tenant c.label c.action x.slot r.is_valid r.slot_is

  -- made to the state, it gives the call's outcome
  pub decides_results : (x : Result Change Errno) → Decides s c x → Results (applied s x) (step_of s c)
  unfolding step_of
  decides_results x d = rw (← d) (of x)
    where
      of : (x : Result Change Errno) → Results (applied s x) (record { table = table_by s (answer_by effect_of x); answer = answered_by (answer_by effect_of x) })
      of (Ok c) = record { table = refl; answer = refl }
      of (Err e) = record { table = refl; answer = refl }

-- Every tenant call keeps soundness: what a granted call writes may be held by its slot, and its caller's pages stay under the ceiling.
use Rattle.std.specs.Prelude.{None, Some}
use Rattle.std.proofs.lemmas.Option.{none-some}
use mathlib.Core.Bool.{true}
use mathlib.Core.Path.{◌≡◌, sym, ap, subst, ◌∙◌}
use Prim.Native.Nat.{ℕ, ◌+◌, ◌-◌, ◌≤◌}
use native.Mathlib.Omega.{arith}
use borrow.Author.Tests.{leb-true}
use lib.Dec.{leb}
use Rattle.label.specs.declared.Label.{Label}
use Rattle.common.proofs.BoolLaws.{first_true, second_true}
use Rattle.range.specs.Tuple
use Rattle.segments.specs.Calls.{CallEffect, call_of, call_row, cleared, slot_for, slot_valid, step_of, writable}
use Rattle.segment_table.specs.Internal.SoundParts.{held}
use Rattle.segment_table.specs.Segments.{ceiling_at, clearance_at, max_pages, pages_at, pages_valid, segment_at, segment_of, with_segment}
use Rattle.segment_table.specs.Slots.{owns, pages_of}
use Rattle.segment_table.specs.Sound.{sound}
use Rattle.segments.specs.declared.Action.{Action}
use Rattle.segments.specs.declared.Action.TheVariants.{Open, Size, Post, Look, Close}
use Rattle.segment_table.specs.declared.Segment.{Segment}
use Rattle.segment_table.specs.declared.SegmentTable.{SegmentTable}
use Rattle.segment_table.specs.declared.Slot.{Slot}
use Rattle.segment_table.specs.declared.TenantId.{TenantId}
use Rattle.segments.proofs.CallsLaws.{Effect, Passed, effect, look_next, looking, next_granted, next_refused, refusing, valid_numbers, valid_tenant, writable_at, writable_own, writing}
use Rattle.segment_table.proofs.SlotsLaws.{lowest_own, own_pages, own_parts, own_slot}
use Rattle.segment_table.proofs.SoundLaws.{Sound, filled_pages, held_cleared, held_filled, parts_sound, slot_held, sound_parts, written_sound, zeros_held}

cleared_label : (s : SegmentTable) (t : TenantId) (l : Label) (a : Action) → cleared s (call_of t l a) ≡ true → Tuple.contains_of (clearance_at s t) l ≡ true
unfolding cleared
cleared_label s t l a e = e

valid_pages : (n : ℕ) → pages_valid n ≡ true → 1 ≤ n
valid_pages n e = leb-true 1 n (first_true (leb 1 n) (leb n max_pages) e)

-- what a granted call writes may be held by its slot
module _ (s : SegmentTable) (t : TenantId) (l : Label) (h : Sound s) where
  -- a slot that is its caller's own and filled holds a label in its caller's clearance
  own_cleared : (p : Slot) → writable s t l p ≡ true → Tuple.contains_of (clearance_at s t) (segment_at s p).label ≡ true
  own_cleared p e =
      let w = writable_own s t l p e in
      held_cleared s p (segment_at s p) t (filled_pages s p w.1) w.0 (sym (slot_held s p) ∙ h.segment p (own_slot s t p w.0))

  -- a segment of at least a page under a label of the caller's clearance
  own_held : (p : Slot) (x : Segment) → owns s t p ≡ true → 1 ≤ x.pages → Tuple.contains_of (clearance_at s t) x.label ≡ true → held s p x ≡ true
  own_held p x o g e = held_filled s p x t g o e

  -- or of the label that the slot had
  label_kept : (p : Slot) (pages version : ℕ) → writable s t l p ≡ true → 1 ≤ pages → held s p (segment_of (segment_at s p).label pages version) ≡ true
  label_kept p pages version w g = own_held p (segment_of (segment_at s p).label pages version) (writable_own s t l p w).0 g (own_cleared p w)

  written_held : {y : CallEffect} (a : Action) (p : Slot) → Passed s t l a y → (call_row a).looked_at ≡ None → slot_for s t (call_row a).named ≡ Some p
      → held s p ((call_row a).written (segment_at s p) l) ≡ true
  written_held (Open x) p r n f =
      own_held p (segment_of l x.pages 0) (lowest_own s t p (valid_tenant s t l (Open x) r.is_valid) f)
      (valid_pages x.pages (valid_numbers s t l (Open x) r.is_valid)) (cleared_label s t l (Open x) r.is_cleared)
  written_held (Size x) p r n f =
      label_kept p x.pages (segment_at s p).version (writable_at s t l x.slot p f r.is_permitted)
      (valid_pages x.pages (second_true (slot_valid x.slot) (pages_valid x.pages) (valid_numbers s t l (Size x) r.is_valid)))
  written_held (Post x) p r n f =
      let w = writable_at s t l x.slot p f r.is_permitted in
      label_kept p (segment_at s p).pages x.version w (filled_pages s p (writable_own s t l p w).1)
  written_held (Look x) p r n f = absurd (none-some x.slot (sym n))
  written_held (Close x) p r n f = zeros_held s p

  -- and its caller's pages stay under the ceiling
  written_fits : {y : CallEffect} (a : Action) (p : Slot) → Passed s t l a y → slot_for s t (call_row a).named ≡ Some p → owns s t p ≡ true
      → pages_of s t + ((call_row a).written (segment_at s p) l).pages ≤ ceiling_at s t + pages_at s p
  written_fits (Open x) p r f o = let e = leb-true (pages_of s t + x.pages) (ceiling_at s t) r.fits in omega arith
  written_fits (Size x) p r f o =
      let q : x.slot ≡ p = cc in
      let e = leb-true (pages_of s t - pages_at s x.slot + x.pages) (ceiling_at s t) r.fits in
      let g : pages_at s x.slot ≡ pages_at s p = ap (pages_at s) q in
      let k = own_pages s t p o in
      omega arith
  written_fits (Post x) p r f o = let k = h.pages t (own_parts s t p o).tenant in omega arith
  written_fits (Look x) p r f o = let k = h.pages t (own_parts s t p o).tenant in omega arith
  written_fits (Close x) p r f o = let k = h.pages t (own_parts s t p o).tenant in omega arith

-- every tenant call keeps soundness
pub call_sound : (s : SegmentTable) (t : TenantId) (l : Label) (a : Action) → sound s ≡ true → sound (step_of s (call_of t l a)).table ≡ true
call_sound s t l a h = by (effect s t l a)
  where
    by : Effect s t l a → sound (step_of s (call_of t l a)).table ≡ true
    by (looking p e) = ap sound (look_next s t l a p e) ∙ h
    by (refusing k detail m e) = ap sound (next_refused s (call_of t l a) k detail e) ∙ h
    by (writing x m e r o) =
        let z = sound_parts s h in
        let w : (call_row a).written (segment_at s x.slot) l ≡ x.segment = sym (ap (λ (y : CallEffect). y.segment) r.effect_is) in
        ap sound (next_granted s (call_of t l a) x e)
        ∙ parts_sound _ (subst (λ (y : Segment). Sound (with_segment s x.slot y)) w
        (written_sound s t x.slot ((call_row a).written (segment_at s x.slot) l) z o (written_held s t l z a x.slot r m r.slot_is) (written_fits s t l z a x.slot r r.slot_is o)))

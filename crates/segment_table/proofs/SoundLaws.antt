-- Soundness part by part, and that a segment put into a slot keeps it where the slot may hold it and its tenant's pages stay under the ceiling.
use mathlib.Core.Bool.{Bool, true, false, cond, not, ◌&&◌, and-false, true≢false}
use mathlib.Core.Path.{◌≡◌, refl, sym, ap, ◌∙◌}
use Prim.Native.Nat.{ℕ, ◌+◌, ◌-◌, ◌<◌, ◌≤◌}
use native.Mathlib.Omega.{arith}
use borrow.Author.Tests.{eq-eqb, eqb-true, le-leb, leb-true, ltb-true, ne_eqb}
use lib.Dec.{eqb, leb, ltb}
use lib.ListN.{length}
use Rattle.std.specs.Prelude.{Option, None, Some}
use Rattle.common.specs.Index.{some_below}
use Rattle.label.specs.Label
use Rattle.label.specs.declared.Label.{Label}
use Rattle.common.proofs.BoolLaws.{both, first_true, not_so, same_truth, second_true, three_true}
use Rattle.common.proofs.IndexLaws.{every_all, every_at}
use Rattle.label.proofs.LabelLaws.{equal_exact}
use Rattle.common.proofs.SearchLaws.{any_of, any_same, any_then, none_of, sum_but, sum_same}
use Rattle.range.specs.Tuple
use Rattle.range.proofs.TupleLaws.{contained_valid}
use Rattle.segment_table.specs.Internal.Owners.{Owned}
use Rattle.segment_table.specs.Internal.SoundParts.{ceilings_kept, clears, held, slots_sound, tenants_sound}
use Rattle.segment_table.specs.Segments.{ceiling_at, clearance_at, pages_at, pages_valid, segment_at, slot, slot_total, tenant_at, tenant_id, tenant_total, with_segment, zero_segment}
use Rattle.segment_table.specs.Slots.{ceilings_of, filled, first_slot, owns, pages_of, slot_count}
use Rattle.segment_table.specs.Sound.{admitted, cleared_by, slot_sound, sound, tenant_sound, under_ceiling, well_sized, is_zero_segment}
use Rattle.segment_table.specs.declared.Segment.{Segment}
use Rattle.segment_table.specs.declared.SegmentTable.{SegmentTable}
use Rattle.segment_table.specs.declared.Slot.{Slot}
use Rattle.segment_table.specs.declared.Tenant.{Tenant}
use Rattle.segment_table.specs.declared.TenantId.{TenantId}
use Rattle.segment_table.specs.Limits.{fits_in, limit_left}
use Rattle.segment_table.proofs.LimitLaws.{fits_exact}
use Rattle.segment_table.proofs.SegmentsLaws.{Lengths, lengths_kept, segment_kept, segment_written}
use Rattle.segment_table.proofs.SlotsLaws.{by_slot, by_tenant, ceiling_among, count_kept, first_kept, own_of, own_parts, own_slot, owner_unique, owns_kept, same_slot}

-- ---- the parts

pub record Sound (s : SegmentTable) : Type 0 where
  pub lengths : Lengths s
  pub pool : pages_valid s.pool ≡ true
  pub tenant : (t : TenantId) → t.0 < tenant_total → tenant_sound (tenant_at s t) ≡ true
  pub segment : (p : Slot) → p.0 < slot_total → slot_sound s p ≡ true
  pub ceilings : ceilings_of s ≤ s.pool
  pub pages : (t : TenantId) → t.0 < tenant_total → pages_of s t ≤ ceiling_at s t

pub sound_parts : (s : SegmentTable) → sound s ≡ true → Sound s
unfolding sound under_ceiling
sound_parts s e =
    let w : Bool = well_sized s in
    let a : Bool = pages_valid s.pool in
    let b : Bool = tenants_sound s in
    let c : Bool = slots_sound s in
    let d : Bool = leb (ceilings_of s) s.pool in
    let f : Bool = ceilings_kept s in
    let h = first_true ((((w && a) && b) && c) && d) f e in
    let g = first_true (((w && a) && b) && c) d h in
    let i = three_true (w && a) b c g in
    let z = first_true w a i.0 in
    record {
      lengths = record {
        tenants_are = eqb-true _ _ (first_true (eqb (length s.tenants) tenant_total) (eqb (length s.segments) slot_total) z);
        segments_are = eqb-true _ _ (second_true (eqb (length s.tenants) tenant_total) (eqb (length s.segments) slot_total) z);
      };
      pool = second_true w a i.0;
      tenant = λ t l. every_at (λ t. tenant_sound (tenant_at s (tenant_id t))) tenant_total t.0 i.1 l;
      segment = λ p l. every_at (λ p. slot_sound s (slot p)) slot_total p.0 i.2 l;
      ceilings = leb-true _ _ (second_true (((w && a) && b) && c) d h);
      pages = λ t l. leb-true _ _ (every_at (λ t. under_ceiling s (tenant_id t)) tenant_total t.0 (second_true ((((w && a) && b) && c) && d) f e) l);
    }

pub parts_sound : (s : SegmentTable) → Sound s → sound s ≡ true
unfolding sound under_ceiling
parts_sound s h =
    both (both (both (both (both (both (eq-eqb _ _ h.lengths.tenants_are) (eq-eqb _ _ h.lengths.segments_are)) h.pool)
    (every_all (λ t. tenant_sound (tenant_at s (tenant_id t))) tenant_total (λ t l. h.tenant (tenant_id t) l)))
    (every_all (λ p. slot_sound s (slot p)) slot_total (λ p l. h.segment (slot p) l)))
    (le-leb _ _ h.ceilings))
    (every_all (λ t. under_ceiling s (tenant_id t)) tenant_total (λ t l. le-leb _ _ (h.pages (tenant_id t) l)))

-- whether the pool has room for another ceiling is told by what is left of it
pub room : (s : SegmentTable) (t : TenantId) (n : ℕ) → sound s ≡ true → t.0 < tenant_total
    → fits_in (limit_left s.pool (ceilings_of s)) (ceiling_at s t) n ≡ leb (ceilings_of s - ceiling_at s t + n) s.pool
room s t n h l = fits_exact _ _ _ _ (sound_parts s h).ceilings (ceiling_among s t l)

-- ---- tenants

-- an admitted tenant is one, and has a ceiling of at least 1
pub admitted_parts : (s : SegmentTable) (t : TenantId) → admitted s t ≡ true → (t.0 < tenant_total) × (1 ≤ ceiling_at s t)
unfolding admitted
admitted_parts s t e =
    (ltb-true _ _ (first_true (ltb t.0 tenant_total) (leb 1 (ceiling_at s t)) e), leb-true _ _ (second_true (ltb t.0 tenant_total) (leb 1 (ceiling_at s t)) e))

pub admitted_tenant : (s : SegmentTable) (t : TenantId) → admitted s t ≡ true → t.0 < tenant_total
admitted_tenant s t e = (admitted_parts s t e).0

-- in a sound state its pages are at most its ceiling
pub pages_kept : (s : SegmentTable) (t : TenantId) → sound s ≡ true → admitted s t ≡ true → pages_of s t ≤ ceiling_at s t
pages_kept s t h e = (sound_parts s h).pages t (admitted_tenant s t e)

-- a sound record's clearance is valid
pub tenant_clearance : (x : Tenant) → tenant_sound x ≡ true → Tuple.valid_of x.clearance ≡ true
unfolding tenant_sound
tenant_clearance x e = first_true (Tuple.valid_of x.clearance) (cond (leb 1 x.ceiling) (not (Tuple.empty_of x.clearance)) (Tuple.empty_of x.clearance)) e

-- ---- what a slot may hold

pub clears_parts : (s : SegmentTable) (p : Slot) (l : Label) (t : ℕ) → clears s p l t ≡ true → (owns s (tenant_id t) p ≡ true) × (Tuple.contains_of (clearance_at s (tenant_id t)) l ≡ true)
clears_parts s p l t e =
    let b : Bool = owns s (tenant_id t) p in
    let d : Bool = Tuple.contains_of (clearance_at s (tenant_id t)) l in
    (first_true b d e, second_true b d e)

pub slot_held : (s : SegmentTable) (p : Slot) → slot_sound s p ≡ held s p (segment_at s p)
unfolding slot_sound filled cleared_by
slot_held s p = refl

-- some tenant clears a label for a slot exactly where the owner does
pub owner_clears : (s : SegmentTable) (p : Slot) (l : Label) (t : TenantId) → owns s t p ≡ true → some_below (clears s p l) tenant_total ≡ Tuple.contains_of (clearance_at s t) l
owner_clears s p l t o =
    same_truth (some_below (clears s p l) tenant_total) (Tuple.contains_of (clearance_at s t) l)
    (λ e. any_then (clears s p l) tenant_total e (λ i h f.
    let c = clears_parts s p l i f in
    ap (λ (u : TenantId). Tuple.contains_of (clearance_at s u) l) (owner_unique s t (tenant_id i) p o c.0) ∙ c.1))
    (λ e. any_of (clears s p l) tenant_total t.0 (own_parts s t p o).tenant (both o e))

-- so its owner tells whether a slot may hold a filled segment, and nobody's slot holds none
pub held_owned : (s : SegmentTable) (p : Slot) (x : Segment) (t : TenantId) → 1 ≤ x.pages → owns s t p ≡ true → held s p x ≡ Tuple.contains_of (clearance_at s t) x.label
held_owned s p x t h o = rw (le-leb 1 x.pages h) (owner_clears s p x.label t o)

pub held_unowned : (s : SegmentTable) (p : Slot) (x : Segment) → 1 ≤ x.pages → some_below (λ t. owns s (tenant_id t) p) tenant_total ≡ false → held s p x ≡ false
held_unowned s p x h n =
    rw (le-leb 1 x.pages h)
    (not_so (some_below (clears s p x.label) tenant_total) (λ e. any_then (clears s p x.label) tenant_total e (λ i l f.
    true≢false (sym (clears_parts s p x.label i f).0 ∙ none_of (λ t. owns s (tenant_id t) p) tenant_total i n l))))

-- whether a slot of this owner may hold x: a filled one a label in its clearance, an empty one, or one that nobody owns, zeros
abbrev pub owned_sound : SegmentTable → Option TenantId → Segment → Bool
owned_sound s (Some t) x = cond (leb 1 x.pages) (Tuple.contains_of (clearance_at s t) x.label) (is_zero_segment x)
owned_sound s None x = is_zero_segment x

-- what was found of a slot's owner, a tenant or nobody, tells whether the slot is sound
pub sound_as_owned : (s : SegmentTable) (p : Slot) (o : Option TenantId) → Owned s p o → slot_sound s p ≡ owned_sound s o (segment_at s p)
unfolding is_zero_segment
sound_as_owned s p (Some t) h =
    slot_held s p ∙ ap (λ (b : Bool). cond (leb 1 (pages_at s p)) b (is_zero_segment (segment_at s p))) (owner_clears s p (segment_at s p).label t h.1)
sound_as_owned s p None h = slot_held s p ∙ go (segment_at s p)
  where
    go : (x : Segment) → held s p x ≡ is_zero_segment x
    go x = by_pages (leb 1 x.pages) refl
      where
        by_pages : (b : Bool) → leb 1 x.pages ≡ b → held s p x ≡ is_zero_segment x
        by_pages true e =
            let l = leb-true 1 x.pages e in
            held_unowned s p x l h ∙ sym (rw (ne_eqb x.pages 0 (λ z. absurd (omega arith)), and-false (Label.equal_of x.label Label.zero_label)))
        by_pages false e = rw e

pub held_filled : (s : SegmentTable) (p : Slot) (x : Segment) (u : TenantId) → 1 ≤ x.pages → owns s u p ≡ true → Tuple.contains_of (clearance_at s u) x.label ≡ true → held s p x ≡ true
held_filled s p x u h o e = rw (le-leb 1 x.pages h) (owner_clears s p x.label u o ∙ e)

-- where a filled slot may hold x, some tenant clears it
held_by : (s : SegmentTable) (p : Slot) (x : Segment) → 1 ≤ x.pages → held s p x ≡ true → some_below (clears s p x.label) tenant_total ≡ true
held_by s p x h e = sym (ap (λ (b : Bool). cond b (some_below (clears s p x.label) tenant_total) (is_zero_segment x)) (le-leb 1 x.pages h)) ∙ e

-- which is its owner
pub held_cleared : (s : SegmentTable) (p : Slot) (x : Segment) (t : TenantId) → 1 ≤ x.pages → owns s t p ≡ true → held s p x ≡ true → Tuple.contains_of (clearance_at s t) x.label ≡ true
held_cleared s p x t h o e = sym (owner_clears s p x.label t o) ∙ held_by s p x h e

pub zeros_held : (s : SegmentTable) (p : Slot) → held s p zero_segment ≡ true
unfolding is_zero_segment
zeros_held s p = rw ((equal_exact Label.zero_label Label.zero_label refl).1 refl)

pub filled_pages : (s : SegmentTable) (p : Slot) → filled s p ≡ true → 1 ≤ pages_at s p
unfolding filled
filled_pages s p e = leb-true 1 (pages_at s p) e

-- a filled slot of a sound state holds a valid label, so that what a look shows has a hex line
pub filled_valid : (s : SegmentTable) (p : Slot) → Sound s → p.0 < slot_total → filled s p ≡ true → Label.valid_of (segment_at s p).label ≡ true
filled_valid s p h l e =
    any_then (clears s p (segment_at s p).label) tenant_total (held_by s p (segment_at s p) (filled_pages s p e) (sym (slot_held s p) ∙ h.segment p l))
    (λ t i f.
    contained_valid (clearance_at s (tenant_id t)) (segment_at s p).label (tenant_clearance (tenant_at s (tenant_id t)) (h.tenant (tenant_id t) i))
    (clears_parts s p (segment_at s p).label t f).1)

-- ---- a segment put into a slot of its tenant's own

module _ (s : SegmentTable) (t : TenantId) (q : Slot) (x : Segment) (h : Sound s) (own : owns s t q ≡ true) where
  abbrev next : SegmentTable
  next = with_segment s q x

  held_same : (p : Slot) (y : Segment) → held next p y ≡ held s p y
  held_same p y =
      ap (λ (b : Bool). cond (leb 1 y.pages) b (is_zero_segment y))
      (any_same (clears next p y.label) (clears s p y.label) tenant_total
      (λ u l. ap (λ (b : Bool). b && Tuple.contains_of (clearance_at s (tenant_id u)) y.label) (owns_kept next s (tenant_id u) p refl)))

  here : segment_at next q ≡ x
  here = segment_written s q x h.lengths (own_slot s t q own)

  -- its tenant has the new pages in place of the old ones
  pages_written : pages_of next t + pages_at s q ≡ pages_of s t + x.pages
  unfolding pages_of
  pages_written =
      let o = own_parts s t q own in
      let r = sum_but (λ p. pages_at s (slot p)) (λ p. pages_at next (slot p)) q.0 (first_slot s t).0 (slot_count s t)
      (λ j n. ap (λ (y : Segment). y.pages) (segment_kept s q (slot j) x n)) o.from o.to in
      rw (first_kept next s t refl, count_kept next s t refl) (r ∙ ap (λ (y : Segment). pages_of s t + y.pages) here)

  -- all others have what they had
  pages_others : (u : TenantId) → u.0 < tenant_total → (u.0 ≡ t.0 → ⊥) → pages_of next u ≡ pages_of s u
  unfolding pages_of
  pages_others u l n =
      rw (first_kept next s u refl, count_kept next s u refl)
      (sum_same (λ p. pages_at next (slot p)) (λ p. pages_at s (slot p)) (first_slot s u).0 (slot_count s u)
      (λ j a b. ap (λ (y : Segment). y.pages) (segment_kept s q (slot j) x
      (λ i. n (ap (λ (v : TenantId). v.0) (owner_unique s u t q (ap (owns s u) (same_slot q (slot j) (sym i)) ∙ own_of s u (slot j) l a b) own))))))

  pub written_sound : held s q x ≡ true → pages_of s t + x.pages ≤ ceiling_at s t + pages_at s q → Sound next
  unfolding ceilings_of
  written_sound e f =
      record {
        lengths = lengths_kept s q x h.lengths;
        pool = h.pool;
        tenant = h.tenant;
        segment = λ p l.
            slot_held next p ∙ held_same p (segment_at next p)
            ∙ by_slot (λ (p : Slot). p.0 < slot_total → held s p (segment_at next p) ≡ true) q p (λ l. ap (held s q) here ∙ e)
            (λ p i l. ap (held s p) (segment_kept s q p x i) ∙ sym (slot_held s p) ∙ h.segment p l) l;
        ceilings = h.ceilings;
        pages = λ u l.
            by_tenant (λ (u : TenantId). u.0 < tenant_total → pages_of next u ≤ ceiling_at s u) t u (λ l. let k = pages_written in omega arith)
            (λ u i l. rw (pages_others u l i) (h.pages u l)) l;
      }

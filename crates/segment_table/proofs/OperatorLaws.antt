-- The operator's calls keep soundness: what is sound before is sound after, and what `make` grants is sound.
use mathlib.Core.Bool.{Bool, true, false, cond, not, ◌&&◌, true≢false}
use mathlib.Core.Logic.{⊎_elim}
use mathlib.Core.Path.{◌≡◌, refl, sym, ap, ◌∙◌}
use Prim.Native.Nat.{ℕ, ◌+◌, ◌-◌, ◌<◌, ◌≤◌}
use native.Mathlib.Omega.{arith}
use borrow.Author.Tests.{le-leb, leb-true, lt-ltb, ltb-true}
use lib.Dec.{leb, ltb}
use lib.ListN.{get_or-replicate, length-replicate}
use Rattle.common.specs.Answer.{Answer, granted, refused, require}
use Rattle.common.specs.Index.{some_below}
use Rattle.label.specs.Region.{regions}
use Rattle.label.specs.declared.Label.{Label}
use Rattle.common.proofs.AnswerLaws.{grant_passed}
use Rattle.common.proofs.BoolLaws.{both, first_true, second_true}
use Rattle.common.proofs.IndexLaws.{every_all}
use Rattle.common.proofs.SearchLaws.{any_of, any_then, same_or_not, sum_but, sum_zero}
use Rattle.range.specs.Tuple
use Rattle.range.specs.declared.tuple.RegionRange.{RegionRange}
use Rattle.range.specs.declared.tuple.Tuple.{Tuple}
use Rattle.range.proofs.TupleLaws.{absent_valid, empty_none}
use Rattle.segment_table.specs.Operator.{admit_answer, admit_of, make_answer, make_of, set_ceiling_answer, set_ceiling_of}
use Rattle.segment_table.specs.Internal.SoundParts.{clears, held}
use Rattle.segment_table.specs.Internal.TableParts.{pool_answer}
use Rattle.segment_table.specs.Replies.{Grant, done, left}
use Rattle.segment_table.specs.Segments.{ceiling_at, clearance_at, empty_table, pages_at, pages_valid, segment_at, slot, slot_total, tenant_at, tenant_id, tenant_of, tenant_total, with_tenant, zero_segment, zero_tenant}
use Rattle.segment_table.specs.Slots.{ceilings_of, first_slot, pages_of, slot_count}
use Rattle.segment_table.specs.Sound.{admitted, sound, tenant_sound, is_zero_segment}
use Rattle.segment_table.specs.declared.Segment.{Segment}
use Rattle.segment_table.specs.declared.SegmentTable.{SegmentTable}
use Rattle.segment_table.specs.declared.Slot.{Slot}
use Rattle.segment_table.specs.declared.Tenant.{Tenant}
use Rattle.segment_table.specs.declared.TenantId.{TenantId}
use Rattle.segment_table.proofs.SegmentsLaws.{lengths_stay, tenant_kept, tenant_written}
use Rattle.segment_table.proofs.SlotsLaws.{by_tenant, count_stays, first_stays, own_bound, owns_stays}
use Rattle.segment_table.proofs.SoundLaws.{Sound, admitted_parts, clears_parts, parts_sound, slot_held, sound_parts, zeros_held}

-- ---- another record for a tenant

module _ (s : SegmentTable) (t : TenantId) (x : Tenant) (h : Sound s) (number : t.0 < tenant_total) where
  abbrev next : SegmentTable
  next = with_tenant s t x

  -- of the tenant that has it, the pages are as they were; so are all others'
  pages_stay : (u : TenantId) → pages_of next u ≡ pages_of s u
  unfolding pages_of
  pages_stay u = rw (first_stays s t u x, count_stays s t u x)

  -- the ceilings add up with the new one in place of the old
  ceilings_with : ceilings_of next + ceiling_at s t ≡ ceilings_of s + x.ceiling
  unfolding ceilings_of
  ceilings_with =
      sum_but (λ u. ceiling_at s (tenant_id u)) (λ u. ceiling_at next (tenant_id u)) t.0 0 tenant_total
      (λ j n. ap (λ (y : Tenant). y.ceiling) (tenant_kept s t (tenant_id j) x n)) (omega arith) (omega arith)
      ∙ ap (λ (y : Tenant). ceilings_of s + y.ceiling) (tenant_written s t x h.lengths number)

  -- what a slot may hold, it still may where the new clearance has all labels of the old one
  held_with : ((l : Label) → Tuple.contains_of (clearance_at s t) l ≡ true → Tuple.contains_of x.clearance l ≡ true)
      → (p : Slot) (y : Segment) → held s p y ≡ true → held next p y ≡ true
  held_with f p y e = go (leb 1 y.pages) e
    where
      same : (v w : Tenant) → v ≡ w → Tuple.contains_of w.clearance y.label ≡ true → Tuple.contains_of v.clearance y.label ≡ true
      same v w i f = ap (λ (z : Tenant). Tuple.contains_of z.clearance y.label) i ∙ f

      still : (u : TenantId) → Tuple.contains_of (clearance_at s u) y.label ≡ true → Tuple.contains_of (clearance_at next u) y.label ≡ true
      still u =
          by_tenant (λ (u : TenantId). Tuple.contains_of (clearance_at s u) y.label ≡ true → Tuple.contains_of (clearance_at next u) y.label ≡ true) t u
          (λ g. same (tenant_at next t) x (tenant_written s t x h.lengths number) (f y.label g)) (λ u i. same (tenant_at next u) (tenant_at s u) (tenant_kept s t u x i))

      go : (b : Bool) → cond b (some_below (clears s p y.label) tenant_total) (is_zero_segment y) ≡ true → cond b (some_below (clears next p y.label) tenant_total) (is_zero_segment y) ≡ true
      go false e = e
      go true e =
          any_then (clears s p y.label) tenant_total e
          (λ k l f.
          let c = clears_parts s p y.label k f in
          any_of (clears next p y.label) tenant_total k l (both (owns_stays s t (tenant_id k) x p ∙ c.0) (still (tenant_id k) c.1)))

  with_sound : tenant_sound x ≡ true → ((l : Label) → Tuple.contains_of (clearance_at s t) l ≡ true → Tuple.contains_of x.clearance l ≡ true)
      → ceilings_of s + x.ceiling ≤ s.pool + ceiling_at s t → pages_of s t ≤ x.ceiling → Sound next
  with_sound e f g k =
      record {
        lengths = lengths_stay s t x h.lengths;
        pool = h.pool;
        tenant = λ u l.
            by_tenant (λ (u : TenantId). u.0 < tenant_total → tenant_sound (tenant_at next u) ≡ true) t u (λ l. ap tenant_sound (tenant_written s t x h.lengths number) ∙ e)
            (λ u i l. ap tenant_sound (tenant_kept s t u x i) ∙ h.tenant u l) l;
        segment = λ p l. slot_held next p ∙ held_with f p (segment_at s p) (sym (slot_held s p) ∙ h.segment p l);
        ceilings = let c = ceilings_with in omega arith;
        pages = λ u l.
            by_tenant (λ (u : TenantId). u.0 < tenant_total → pages_of next u ≤ ceiling_at next u) t u
            (λ l.
            let a = pages_stay t in
            let b : ceiling_at next t ≡ x.ceiling = ap (λ (y : Tenant). y.ceiling) (tenant_written s t x h.lengths number) in
            omega arith)
            (λ u i l.
            let a = pages_stay u in
            let b : ceiling_at next u ≡ ceiling_at s u = ap (λ (y : Tenant). y.ceiling) (tenant_kept s t u x i) in
            let c = h.pages u l in
            omega arith)
            l;
      }

-- ---- the calls

-- a tenant in its numbers that is not admitted has a ceiling of 0
not_admitted : (s : SegmentTable) (t : TenantId) → t.0 < tenant_total → not (admitted s t) ≡ true → ceiling_at s t ≡ 0
unfolding admitted
not_admitted s t l e =
    ⊎_elim (λ (i : ceiling_at s t ≡ 0). i)
    (λ (i : ceiling_at s t ≡ 0 → ⊥). absurd (true≢false (sym e ∙ ap not (both (lt-ltb _ _ l) (le-leb 1 (ceiling_at s t) (omega (arith, i)))))))
    (same_or_not (ceiling_at s t) 0)

-- so the pool has room for one that is new where the sum is at most the pool
pub pool_new : (s : SegmentTable) (t : TenantId) (n : ℕ) → t.0 < tenant_total → admitted s t ≡ false → require (leb (ceilings_of s + n) s.pool) 12 (granted done) ≡ pool_answer s t n
pool_new s t n l e =
    let z = not_admitted s t l (ap not e) in
    let h : ceilings_of s ≡ ceilings_of s - ceiling_at s t = omega arith in
    ap (λ (k : ℕ). require (leb (k + n) s.pool) 12 (granted done)) h

-- a record of at least a page
tenant_sound_of : (n : ℕ) (c : Tuple) → 1 ≤ n → Tuple.valid_of c ≡ true → not (Tuple.empty_of c) ≡ true → tenant_sound (tenant_of n c) ≡ true
unfolding tenant_sound
tenant_sound_of n c l v e = both v (rw (le-leb 1 n l) e)

tenant_sound_in : (x : Tenant) → 1 ≤ x.ceiling → tenant_sound x ≡ true → (Tuple.valid_of x.clearance ≡ true) × (not (Tuple.empty_of x.clearance) ≡ true)
unfolding tenant_sound
tenant_sound_in x l e =
    let r : Bool = cond (leb 1 x.ceiling) (not (Tuple.empty_of x.clearance)) (Tuple.empty_of x.clearance) in (
      first_true (Tuple.valid_of x.clearance) r e,
      ap (λ (b : Bool). cond b (not (Tuple.empty_of x.clearance)) (Tuple.empty_of x.clearance)) (sym (le-leb 1 x.ceiling l)) ∙ second_true (Tuple.valid_of x.clearance) r e,
    )

-- one that holds zeros has no label
tenant_empty : (x : Tenant) (l : Label) → x.ceiling ≡ 0 → tenant_sound x ≡ true → Tuple.contains_of x.clearance l ≡ true → ⊥
unfolding tenant_sound
tenant_empty x l z e =
    empty_none x.clearance l
    (ap (λ (n : ℕ). cond (leb 1 n) (not (Tuple.empty_of x.clearance)) (Tuple.empty_of x.clearance)) (sym z) ∙ second_true (Tuple.valid_of x.clearance) _ e)

granted_admit : (s : SegmentTable) (t : TenantId) (n : ℕ) (c : Tuple) → sound s ≡ true → (g : Grant) → admit_answer s t n c ≡ granted g
    → sound (with_tenant s t (tenant_of n c)) ≡ true
unfolding admit_answer
granted_admit s t n c h g e =
    let v : Bool = ltb t.0 tenant_total && Tuple.valid_of c in
    let e1 = grant_passed (sound s) 22 g _ (sym e) in
    let e2 = grant_passed ((v && not (Tuple.empty_of c)) && leb 1 n) 22 g _ e1.1 in
    let e3 = grant_passed (not (admitted s t)) 16 g _ e2.1 in
    let e4 = grant_passed (leb (ceilings_of s + n) s.pool) 12 g _ e3.1 in
    let a = first_true (v && not (Tuple.empty_of c)) (leb 1 n) e2.0 in
    let b = first_true v (not (Tuple.empty_of c)) a in
    let i : t.0 < tenant_total = ltb-true _ _ (first_true (ltb t.0 tenant_total) (Tuple.valid_of c) b) in
    let z : ceiling_at s t ≡ 0 = not_admitted s t i e3.0 in
    let q = sound_parts s h in
    let p = q.pages t i in
    let m = leb-true (ceilings_of s + n) s.pool e4.0 in
    parts_sound _
    (with_sound s t (tenant_of n c) q i
    (tenant_sound_of n c (leb-true 1 n (second_true (v && not (Tuple.empty_of c)) (leb 1 n) e2.0)) (second_true (ltb t.0 tenant_total) (Tuple.valid_of c) b) (second_true v (not (Tuple.empty_of c)) a))
    (λ k f. absurd (tenant_empty (tenant_at s t) k z (q.tenant t i) f))
    (omega arith) (omega arith))

granted_ceiling : (s : SegmentTable) (t : TenantId) (n : ℕ) → sound s ≡ true → (g : Grant) → set_ceiling_answer s t n ≡ granted g
    → sound (with_tenant s t (tenant_of n (clearance_at s t))) ≡ true
unfolding set_ceiling_answer
granted_ceiling s t n h g e =
    let e1 = grant_passed (sound s) 22 g _ (sym e) in
    let e2 = grant_passed (admitted s t && leb 1 n) 22 g _ e1.1 in
    let e3 = grant_passed (leb (pages_of s t) n) 16 g _ e2.1 in
    let e4 = grant_passed (leb (ceilings_of s - ceiling_at s t + n) s.pool) 12 g _ e3.1 in
    let i = admitted_parts s t (first_true (admitted s t) (leb 1 n) e2.0) in
    let q = sound_parts s h in
    let v = tenant_sound_in (tenant_at s t) i.1 (q.tenant t i.0) in
    let m = leb-true (ceilings_of s - ceiling_at s t + n) s.pool e4.0 in
    parts_sound _
    (with_sound s t (tenant_of n (clearance_at s t)) q i.0
    (tenant_sound_of n (clearance_at s t) (leb-true 1 n (second_true (admitted s t) (leb 1 n) e2.0)) v.0 v.1)
    (λ k f. f) (omega arith) (leb-true (pages_of s t) n e3.0))

-- what is left is sound where what is granted is
left_sound : (s u : SegmentTable) (x : Answer Grant) → sound s ≡ true → ((g : Grant) → x ≡ granted g → sound u ≡ true) → sound (left s u x) ≡ true
left_sound s u (granted g) h f = f g refl
left_sound s u (refused n detail) h f = h

pub admit_sound : (s : SegmentTable) (t : TenantId) (n : ℕ) (c : Tuple) → sound s ≡ true → sound (admit_of s t n c).table ≡ true
unfolding admit_of
admit_sound s t n c h = left_sound s _ (admit_answer s t n c) h (granted_admit s t n c h)

pub set_ceiling_sound : (s : SegmentTable) (t : TenantId) (n : ℕ) → sound s ≡ true → sound (set_ceiling_of s t n).table ≡ true
unfolding set_ceiling_of
set_ceiling_sound s t n h = left_sound s _ (set_ceiling_answer s t n) h (granted_ceiling s t n h)

-- ---- make

zero_tenant_sound : tenant_sound zero_tenant ≡ true
unfolding tenant_sound Tuple.valid_of Tuple.empty_of
zero_tenant_sound =
    both (every_all (λ r. Tuple.valid_at r (Tuple.region_range_at Tuple.empty_tuple r)) regions (λ r l. ap (Tuple.valid_at r) (get_or-replicate regions r Tuple.absent _ l) ∙ absent_valid r))
    (every_all (λ r. not (Tuple.is_there (Tuple.region_range_at Tuple.empty_tuple r))) regions (λ r l. ap (λ (e : RegionRange). not (Tuple.is_there e)) (get_or-replicate regions r Tuple.absent _ l)))

no_ceilings : (pool : ℕ) → ceilings_of (empty_table pool) ≡ 0
unfolding ceilings_of
no_ceilings pool = sum_zero (λ t. ceiling_at (empty_table pool) (tenant_id t)) 0 tenant_total (λ j a b. ap (λ (x : Tenant). x.ceiling) (get_or-replicate tenant_total j zero_tenant _ (omega arith)))

no_pages : (pool : ℕ) (t : TenantId) → t.0 < tenant_total → pages_of (empty_table pool) t ≡ 0
unfolding pages_of
no_pages pool t l =
    let k = own_bound (empty_table pool) t l in
    sum_zero (λ p. pages_at (empty_table pool) (slot p)) (first_slot (empty_table pool) t).0 (slot_count (empty_table pool) t)
    (λ j a b. ap (λ (x : Segment). x.pages) (get_or-replicate slot_total j zero_segment _ (omega arith)))

-- a state with no tenants is sound
empty_sound : (pool : ℕ) → pages_valid pool ≡ true → sound (empty_table pool) ≡ true
empty_sound pool e =
    parts_sound (empty_table pool)
    (record {
      lengths = record { tenants_are = length-replicate tenant_total zero_tenant; segments_are = length-replicate slot_total zero_segment };
      pool = e;
      tenant = λ t l. ap tenant_sound (get_or-replicate tenant_total t.0 zero_tenant _ l) ∙ zero_tenant_sound;
      segment = λ p l. slot_held (empty_table pool) p ∙ ap (held (empty_table pool) p) (get_or-replicate slot_total p.0 zero_segment _ l) ∙ zeros_held (empty_table pool) p;
      ceilings = let z = no_ceilings pool in omega arith;
      pages = λ t l. let z = no_pages pool t l in omega arith;
    })

-- a granted make gives a sound state
pub make_sound : (pool : ℕ) (g : Grant) → (make_of pool).answer ≡ granted g → sound (make_of pool).table ≡ true
unfolding make_of make_answer
make_sound pool g e =
    let r = grant_passed (pages_valid pool) 22 g (granted done) (sym e) in
    rw r.0 (empty_sound pool r.0)

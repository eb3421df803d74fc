-- Whose a slot is, and a tenant's own slots. The laws of `first_slot`, `slot_count` and `owns` stand here: nothing else opens these three.
use mathlib.Core.Bool.{Bool, true, false, cond, not, true≢false}
use mathlib.Core.List.{List}
use mathlib.Core.Logic.{⊎_elim}
use Rattle.std.specs.Prelude.{Option, None, Some}
use Rattle.std.proofs.lemmas.Option.{none-some, same_Some}
use mathlib.Core.Path.{◌≡◌, refl, sym, ap, subst, ◌∙◌}
use Prim.Native.Nat.{ℕ, ◌+◌, ◌<◌, ◌≤◌}
use native.Mathlib.Nat.{add-zero, zero-add}
use native.Mathlib.Omega.{arith}
use borrow.Author.Tests.{le-leb, le-ltb, leb-true, lt-leb, lt-ltb, ltb-false, ltb-true}
use lib.Dec.{leb, ltb}
use lib.ListN.{length, get_or}
use Rattle.std.specs.List.{AllWithin, HoldsAt, sum_by}
use Rattle.std.specs.Option.{MatchOption, option_map}
use Rattle.common.specs.Index.{first_from, some_below}
use Rattle.common.proofs.BoolLaws.{both, not_so, three_true}
use Rattle.common.proofs.SearchLaws.{any_then, first_least, hit, pass, same_or_not, sum_term}
use Rattle.segment_table.specs.Limits.{limit_left}
use Rattle.segment_table.specs.Segments.{ceiling_at, pages_at, slot, slot_total, tenant_id, tenant_total, with_tenant}
use Rattle.segment_table.specs.Slots.{as_slot, ceilings_of, empty_at, filled, first_slot, lowest_empty, owns, pages_of, slot_count}
use Rattle.segment_table.specs.Internal.Owners.{Owned, own_list, own_range, own_segments}
use Rattle.std.specs.declared.ops.Range.{Range}
use Rattle.segment_table.specs.declared.Segment.{Segment}
use Rattle.segment_table.specs.declared.SegmentTable.{SegmentTable}
use Rattle.segment_table.specs.declared.Slot.{Slot}
use Rattle.segment_table.specs.declared.Tenant.{Tenant}
use Rattle.segment_table.specs.declared.TenantId.{TenantId}
use Rattle.segment_table.proofs.ListLaws.{part_at, part_length, sum_element}

-- slots and tenants with the same number are the same
pub same_slot : (p q : Slot) → p.0 ≡ q.0 → p ≡ q
same_slot p q e = ap slot e

pub same_tenant : (t u : TenantId) → t.0 ≡ u.0 → t ≡ u
same_tenant t u e = ap tenant_id e

-- what holds of one, and of any other, holds of each
by_number : {A : Type 0} (number : A → ℕ) → ((x y : A) → number x ≡ number y → x ≡ y) → (P : A → Type 0) (x y : A) → P x → ((y : A) → (number y ≡ number x → ⊥) → P y) → P y
by_number number same P x y h k = ⊎_elim (λ (e : number y ≡ number x). subst P (same x y (sym e)) h) (k y) (same_or_not (number y) (number x))

pub by_slot : (P : Slot → Type 0) (p q : Slot) → P p → ((q : Slot) → (q.0 ≡ p.0 → ⊥) → P q) → P q
by_slot = by_number (λ p. p.0) same_slot

pub by_tenant : (P : TenantId → Type 0) (t u : TenantId) → P t → ((u : TenantId) → (u.0 ≡ t.0 → ⊥) → P u) → P u
by_tenant = by_number (λ t. t.0) same_tenant

-- ---- a tenant's own slots are those from its first on, as many as it has

pub record Own (s : SegmentTable) (t : TenantId) (p : Slot) : Type 0 where
  pub tenant : t.0 < tenant_total
  pub from : (first_slot s t).0 ≤ p.0
  pub to : p.0 < (first_slot s t).0 + slot_count s t

pub own_parts : (s : SegmentTable) (t : TenantId) (p : Slot) → owns s t p ≡ true → Own s t p
unfolding owns
own_parts s t p e =
    let h = three_true (ltb t.0 tenant_total) (leb (first_slot s t).0 p.0) (ltb p.0 ((first_slot s t).0 + slot_count s t)) e in
    record { tenant = ltb-true _ _ h.0; from = leb-true _ _ h.1; to = ltb-true _ _ h.2 }

pub own_of : (s : SegmentTable) (t : TenantId) (p : Slot) → t.0 < tenant_total → (first_slot s t).0 ≤ p.0 → p.0 < (first_slot s t).0 + slot_count s t → owns s t p ≡ true
unfolding owns
own_of s t p h a b = both (both (lt-ltb _ _ h) (le-leb _ _ a)) (lt-ltb _ _ b)

-- ---- what the rule of today says

-- they are slots
pub own_bound : (s : SegmentTable) (t : TenantId) → t.0 < tenant_total → (first_slot s t).0 + slot_count s t ≤ slot_total
unfolding first_slot slot_count
own_bound s t h = omega arith

-- no slot has two owners
pub owner_unique : (s : SegmentTable) (t u : TenantId) (p : Slot) → owns s t p ≡ true → owns s u p ≡ true → t ≡ u
unfolding first_slot slot_count
owner_unique s t u p a b =
    let x = own_parts s t p a in
    let y = own_parts s u p b in
    let x1 = x.from in
    let x2 = x.to in
    let y1 = y.from in
    let y2 = y.to in
    same_tenant t u (omega arith)

-- the rule reads the tenants' records and no slot
pub first_kept : (s u : SegmentTable) (t : TenantId) → s.tenants ≡ u.tenants → first_slot s t ≡ first_slot u t
unfolding first_slot
first_kept s u t e = refl

pub count_kept : (s u : SegmentTable) (t : TenantId) → s.tenants ≡ u.tenants → slot_count s t ≡ slot_count u t
unfolding slot_count
count_kept s u t e = refl

-- and of these neither ceilings nor clearances: another record for a tenant leaves every slot to its owner
pub first_stays : (s : SegmentTable) (t u : TenantId) (x : Tenant) → first_slot (with_tenant s t x) u ≡ first_slot s u
unfolding first_slot
first_stays s t u x = refl

pub count_stays : (s : SegmentTable) (t u : TenantId) (x : Tenant) → slot_count (with_tenant s t x) u ≡ slot_count s u
unfolding slot_count
count_stays s t u x = refl

-- nobody owns a slot that no tenant owns
pub owned_by_none : (s : SegmentTable) (p : Slot) → ((k : ℕ) → 0 ≤ k → k < tenant_total → owns s (tenant_id k) p ≡ false) → Owned s p None
owned_by_none s p h =
    not_so (some_below (λ t. owns s (tenant_id t) p) tenant_total)
    (λ e. any_then (λ t. owns s (tenant_id t) p) tenant_total e (λ i l f. true≢false (sym f ∙ h i (omega arith) l)))

-- ---- what follows

pub own_slot : (s : SegmentTable) (t : TenantId) (p : Slot) → owns s t p ≡ true → p.0 < slot_total
own_slot s t p e =
    let x = own_parts s t p e in
    let a = x.to in
    let b = own_bound s t x.tenant in
    omega arith

pub owns_kept : (s u : SegmentTable) (t : TenantId) (p : Slot) → s.tenants ≡ u.tenants → owns s t p ≡ owns u t p
unfolding owns
owns_kept s u t p e = rw (first_kept s u t e, count_kept s u t e)

pub owns_stays : (s : SegmentTable) (t u : TenantId) (x : Tenant) (p : Slot) → owns (with_tenant s t x) u p ≡ owns s u p
unfolding owns
owns_stays s t u x p = rw (first_stays s t u x, count_stays s t u x)

-- the pages of a slot of a tenant's own are among its pages
pub own_pages : (s : SegmentTable) (t : TenantId) (p : Slot) → owns s t p ≡ true → pages_at s p ≤ pages_of s t
unfolding pages_of
own_pages s t p o = let k = own_parts s t p o in sum_term (λ p. pages_at s (slot p)) p.0 (first_slot s t).0 (slot_count s t) k.from k.to

-- the ceilings add up as the list of the records has them
pub ceilings_sum : (s : SegmentTable) → length s.tenants ≡ tenant_total → sum_by (λ (x : Tenant). x.ceiling) s.tenants ≡ ceilings_of s
unfolding ceilings_of
ceilings_sum s n = sym (sum_element (λ x. x.ceiling) (λ t. ceiling_at s (tenant_id t)) s.tenants 0 tenant_total _ n (λ i l. ap (λ (k : ℕ). ceiling_at s (tenant_id k)) (zero-add i)))

-- a tenant's ceiling is among the ceilings
pub ceiling_among : (s : SegmentTable) (t : TenantId) → t.0 < tenant_total → ceiling_at s t ≤ ceilings_of s
unfolding ceilings_of
ceiling_among s t h = sum_term (λ i. ceiling_at s (tenant_id i)) t.0 0 tenant_total (omega arith) (omega arith)

-- a slot that is found for an open is its tenant's own
pub lowest_own : (s : SegmentTable) (t : TenantId) (p : Slot) → t.0 < tenant_total → lowest_empty s t ≡ Some p → owns s t p ≡ true
unfolding lowest_empty
lowest_own s t p h e = go (first_from (empty_at s) (first_slot s t).0 (slot_count s t)) refl (rw (lt-ltb _ _ h) at e)
  where
    go : (o : Option ℕ) → first_from (empty_at s) (first_slot s t).0 (slot_count s t) ≡ o → as_slot o ≡ Some p → owns s t p ≡ true
    go None f e = absurd (none-some p e)
    go (Some k) f e =
        let q : slot k ≡ p = cc in
        let r = first_least (empty_at s) (first_slot s t).0 (slot_count s t) k f in
        ap (owns s t) (sym q) ∙ own_of s t (slot k) h r.0.above r.1

-- ---- a tenant's own slots, as the list of what they hold

pub own_cases : {A : Type 0} (s : SegmentTable) (t : TenantId) (x y : A) → cond (ltb t.0 tenant_total) (Some x) None ≡ Some y → (t.0 < tenant_total) × (x ≡ y)
own_cases s t x y e = by (ltb t.0 tenant_total) refl e
  where
    by : (b : Bool) → ltb t.0 tenant_total ≡ b → cond b (Some x) None ≡ Some y → (t.0 < tenant_total) × (x ≡ y)
    by true h e = (ltb-true t.0 tenant_total h, same_Some x y e)
    by false h e = absurd (none-some y e)

pub own_from : (s : SegmentTable) (t : TenantId) (r : Range ℕ) → own_range s t ≡ Some r → r.start ≤ r.end
own_from s t r e = let h = own_cases s t _ r e in let f = ap (λ (r : Range ℕ). r.start) h.1 in let g = ap (λ (r : Range ℕ). r.end) h.1 in omega arith

pub own_within : (s : SegmentTable) (t : TenantId) (r : Range ℕ) → own_range s t ≡ Some r → r.end ≤ slot_total
own_within s t r e = let h = own_cases s t _ r e in let b = own_bound s t h.0 in let g = ap (λ (r : Range ℕ). r.end) h.1 in omega arith

-- where it is lent, t is a tenant
pub own_lent : (s : SegmentTable) (t : TenantId) (xs : List Segment) → own_segments s t ≡ Some xs → (t.0 < tenant_total) × (own_list s t ≡ xs)
own_lent s t xs e = own_cases s t (own_list s t) xs e

pub own_unlent : (s : SegmentTable) (t : TenantId) → own_segments s t ≡ None → tenant_total ≤ t.0
own_unlent s t e = by (ltb t.0 tenant_total) refl e
  where
    by : (b : Bool) → ltb t.0 tenant_total ≡ b → cond b (Some (own_list s t)) None ≡ None → tenant_total ≤ t.0
    by true h e = absurd (none-some (own_list s t) (sym e))
    by false h e = ltb-false t.0 tenant_total h

module _ (s : SegmentTable) (t : TenantId) (h : t.0 < tenant_total) (n : length s.segments ≡ slot_total) where
  own_length : length (own_list s t) ≡ slot_count s t
  own_length = part_length s.segments (first_slot s t).0 (slot_count s t) (let b = own_bound s t h in omega arith)

  own_at : (i : ℕ) (d : Segment) → i < slot_count s t → get_or (own_list s t) i d ≡ get_or s.segments ((first_slot s t).0 + i) d
  own_at i d l = part_at s.segments (first_slot s t).0 (slot_count s t) i d l

  own_sum : sum_by (λ (x : Segment). x.pages) (own_list s t) ≡ pages_of s t
  unfolding pages_of
  own_sum =
      sym (sum_element (λ x. x.pages) (λ p. pages_at s (slot p)) (own_list s t) (first_slot s t).0 (slot_count s t) _ own_length
      (λ i l. ap (λ (x : Segment). x.pages) (sym (own_at i _ l))))

  empty_own : (i : ℕ) → i < slot_count s t → HoldsAt (λ (x : Segment). x.pages ≡ 0) (own_list s t) i → empty_at s ((first_slot s t).0 + i) ≡ true
  unfolding filled
  empty_own i l e =
      let z : pages_at s (slot ((first_slot s t).0 + i)) ≡ 0 = ap (λ (x : Segment). x.pages) (sym (own_at i _ l)) ∙ e _ in
      ap not (lt-leb 1 (pages_at s (slot ((first_slot s t).0 + i))) (omega arith))

  filled_own : (i : ℕ) → i < slot_count s t → HoldsAt (λ (x : Segment). x.pages ≡ 0 → ⊥) (own_list s t) i → empty_at s ((first_slot s t).0 + i) ≡ false
  unfolding filled
  filled_own i l e =
      let z : pages_at s (slot ((first_slot s t).0 + i)) ≡ 0 → ⊥ = λ z. e _ (ap (λ (x : Segment). x.pages) (own_at i _ l) ∙ z) in
      ap not (le-leb 1 (pages_at s (slot ((first_slot s t).0 + i))) (omega (arith, z)))

  none_left : (k : ℕ) → first_from (empty_at s) k 0 ≡ None
  unfolding first_from
  none_left k = refl

  search_by : (x : Option ℕ) → first_from (empty_at s) (first_slot s t).0 (slot_count s t) ≡ x → as_slot x ≡ lowest_empty s t
  unfolding lowest_empty
  search_by x e = rw (lt-ltb _ _ h) (ap as_slot (sym e))

  -- a search in it for one without pages
  own_search : (r : Option ℕ) → MatchOption r (AllWithin (λ x. x.pages ≡ 0 → ⊥) (own_list s t) 0 (length (own_list s t)))
      (λ i. (i < length (own_list s t)) × HoldsAt (λ x. x.pages ≡ 0) (own_list s t) i × AllWithin (λ x. x.pages ≡ 0 → ⊥) (own_list s t) 0 i)
      → option_map (λ k. slot ((first_slot s t).0 + k)) r ≡ lowest_empty s t
  own_search None m =
      search_by None (ap (first_from (empty_at s) (first_slot s t).0) (sym (add-zero (slot_count s t)))
      ∙ pass (empty_at s) (first_slot s t).0 (slot_count s t) 0 (λ j l. filled_own j l (λ d. let e = own_length in m j d (omega arith) (omega arith)))
      ∙ none_left ((first_slot s t).0 + slot_count s t))
  own_search (Some i) m =
      let e = own_length in
      let b = m.0 in
      search_by (Some ((first_slot s t).0 + i))
      (hit (empty_at s) (first_slot s t).0 (slot_count s t) i (omega arith) (λ j l. filled_own j (omega arith) (λ d. m.2 j d (omega arith) l)) (empty_own i (omega arith) m.1))

-- what is left of a limit, by the list that is lent
pub left_lent : (s : SegmentTable) (t : TenantId) (limit : ℕ) (xs : List Segment) → length s.segments ≡ slot_total → own_segments s t ≡ Some xs
    → limit_left limit (sum_by (λ (x : Segment). x.pages) xs) ≡ cond (ltb t.0 tenant_total) (limit_left limit (pages_of s t)) None
left_lent s t limit xs n e =
    let h = own_lent s t xs e in
    rw (lt-ltb _ _ h.0) (ap (λ (xs : List Segment). limit_left limit (sum_by (λ (x : Segment). x.pages) xs)) (sym h.1) ∙ ap (limit_left limit) (own_sum s t h.0 n))

-- what a search in it has found
pub search_lent : (s : SegmentTable) (t : TenantId) (xs : List Segment) → length s.segments ≡ slot_total → own_segments s t ≡ Some xs
    → (r : Option ℕ) → MatchOption r (AllWithin (λ x. x.pages ≡ 0 → ⊥) xs 0 (length xs))
    (λ i. (i < length xs) × HoldsAt (λ x. x.pages ≡ 0) xs i × AllWithin (λ x. x.pages ≡ 0 → ⊥) xs 0 i)
    → option_map (λ k. slot ((first_slot s t).0 + k)) r ≡ lowest_empty s t
search_lent s t xs n e r m = let h = own_lent s t xs e in own_search s t h.0 n r (rw h.1 m)

pub lowest_outside : (s : SegmentTable) (t : TenantId) → tenant_total ≤ t.0 → None ≡ lowest_empty s t
unfolding lowest_empty
lowest_outside s t h = rw (le-ltb t.0 tenant_total h)

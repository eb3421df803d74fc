-- What a tenant call reads and what it changes: its caller's own slots, what no tenant call changes, and, for a look at another's slot,
-- what is visible of that slot. Nothing above these laws opens `step_of`.
use mathlib.Core.Bool.{Bool, true, false, cond, not, ◌&&◌, true≢false}
use mathlib.Core.Logic.{◌⊎◌, inl, inr}
use Rattle.std.specs.Prelude.{Option, None, Some}
use Rattle.std.proofs.lemmas.Option.{none-some}
use mathlib.Core.Path.{◌≡◌, refl, sym, ap, ap₂, ◌∙◌}
use Prim.Native.Nat.{ℕ, ◌+◌, ◌-◌, ◌<◌}
use borrow.Author.Tests.{ltb-true}
use lib.Dec.{leb, ltb}
use Rattle.common.specs.Answer.{Answer, granted, is_granted, refused, require}
use Rattle.common.specs.Index.{first_from, sum_from}
use Rattle.label.specs.Label
use Rattle.label.specs.declared.Label.{Label}
use Rattle.common.proofs.AnswerLaws.{grant_passed, require_same}
use Rattle.common.proofs.BoolLaws.{first_true, three_true}
use Rattle.common.proofs.SearchLaws.{first_same, sum_same}
use Rattle.range.specs.Tuple
use Rattle.segments.specs.Calls.{CallEffect, access_of, answered_by, call_of, call_row, call_valid, cleared, decision_on, effect_on, require_slot, slot_for, slot_valid, step_of, table_by, visible, writable}
use Rattle.segment_table.specs.declared.Reply.TheVariants.{Shown as shown}
use Rattle.segment_table.specs.Segments.{ceiling_at, pages_at, segment_at, slot, slot_total, tenant_total, with_segment}
use Rattle.segment_table.specs.Slots.{as_slot, empty_at, filled, first_slot, lowest_empty, owns, pages_of, slot_count}
use Rattle.segment_table.specs.Sound.{admitted, sound}
use Rattle.segments.specs.declared.Action.{Action}
use Rattle.segments.specs.declared.Action.TheVariants.{Open, Size, Post, Look, Close}
use Rattle.segments.specs.declared.Call.{Call}
use Rattle.segment_table.specs.declared.Segment.{Segment}
use Rattle.segment_table.specs.declared.SegmentTable.{SegmentTable}
use Rattle.segment_table.specs.declared.Slot.{Slot}
use Rattle.segment_table.specs.declared.Tenant.{Tenant}
use Rattle.segment_table.specs.declared.TenantId.{TenantId}
use Rattle.segment_table.proofs.SegmentsLaws.{segment_kept, segment_same, segment_written, tenant_same}
use Rattle.segment_table.proofs.SlotsLaws.{by_slot, lowest_own, count_kept, first_kept, own_of, own_slot, owns_kept, same_slot}
use Rattle.segment_table.proofs.SoundLaws.{sound_parts}

-- ---- the slot that a call is about

pub writable_own : (s : SegmentTable) (t : TenantId) (l : Label) (p : Slot) → writable s t l p ≡ true → (owns s t p ≡ true) × (filled s p ≡ true)
unfolding writable
writable_own s t l p e =
    let h = three_true (owns s t p) (filled s p) (Label.equal_of l (segment_at s p).label) e in
    (h.0, h.1)

-- of the slot that a call names
pub writable_at : (s : SegmentTable) (t : TenantId) (l : Label) (q p : Slot) → Some q ≡ Some p → writable s t l q ≡ true → writable s t l p ≡ true
writable_at s t l q p f e = let i : q ≡ p = cc in rw (← i) e

-- a call that looks, if at all, at a slot of its caller's own
abbrev pub LooksAtOwn : SegmentTable → TenantId → Action → Type 0
LooksAtOwn s t a = (p : Slot) → (call_row a).looked_at ≡ Some p → owns s t p ≡ true

-- such a call is about a slot of its caller's own
pub target_own : (s : SegmentTable) (t : TenantId) (l : Label) (a : Action) (p : Slot) → t.0 < tenant_total → LooksAtOwn s t a
    → (call_row a).permitted s t l ≡ true → slot_for s t (call_row a).named ≡ Some p → owns s t p ≡ true
target_own s t l (Open x) p h m e f = lowest_own s t p h f
target_own s t l (Size x) p h m e f = (writable_own s t l p (writable_at s t l x.slot p f e)).0
target_own s t l (Post x) p h m e f = (writable_own s t l p (writable_at s t l x.slot p f e)).0
target_own s t l (Look x) p h m e f = m p f
target_own s t l (Close x) p h m e f = (writable_own s t l p (writable_at s t l x.slot p f e)).0

-- a valid call's tenant is one
pub valid_tenant : (s : SegmentTable) (t : TenantId) (l : Label) (a : Action) → call_valid s (call_of t l a) ≡ true → t.0 < tenant_total
unfolding call_valid admitted
valid_tenant s t l a e =
    ltb-true t.0 tenant_total (first_true _ (leb 1 (ceiling_at s t)) (three_true (ltb t.0 tenant_total && leb 1 (ceiling_at s t)) (Label.valid_of l) (call_row a).numbers_valid e).0)

pub valid_numbers : (s : SegmentTable) (t : TenantId) (l : Label) (a : Action) → call_valid s (call_of t l a) ≡ true → (call_row a).numbers_valid ≡ true
unfolding call_valid
valid_numbers s t l a e = (three_true (admitted s t) (Label.valid_of l) (call_row a).numbers_valid e).2

slot_in : (q p : Slot) → slot_valid q ≡ true → Some q ≡ Some p → p.0 < slot_total
slot_in q p v e = let r : q ≡ p = cc in rw (← r) (ltb-true q.0 slot_total v)

-- the slot that a valid call is about is one
pub valid_slot : (s : SegmentTable) (t : TenantId) (l : Label) (a : Action) (p : Slot) → call_valid s (call_of t l a) ≡ true → slot_for s t (call_row a).named ≡ Some p → p.0 < slot_total
valid_slot s t l a p e f = go a (valid_numbers s t l a e) f
  where
    go : (a : Action) → (call_row a).numbers_valid ≡ true → slot_for s t (call_row a).named ≡ Some p → p.0 < slot_total
    go (Open x) n f = own_slot s t p (lowest_own s t p (valid_tenant s t l a e) f)
    go (Size x) n f = slot_in x.slot p (first_true (slot_valid x.slot) _ n) f
    go (Post x) n f = slot_in x.slot p n f
    go (Look x) n f = slot_in x.slot p n f
    go (Close x) n f = slot_in x.slot p n f

-- so is the slot that it names
pub named_slot : (s : SegmentTable) (c : Call) (p : Slot) → call_valid s c ≡ true → (call_row c.action).named ≡ Some p → slot_valid p ≡ true
named_slot s c p e f = go c.action (valid_numbers s c.tenant c.label c.action e) f
  where
    go : (a : Action) → (call_row a).numbers_valid ≡ true → (call_row a).named ≡ Some p → slot_valid p ≡ true
    go (Open x) n f = absurd (none-some p f)
    go (Size x) n f = let q : x.slot ≡ p = cc in rw (← q) (first_true (slot_valid x.slot) _ n)
    go (Post x) n f = let q : x.slot ≡ p = cc in rw (← q) n
    go (Look x) n f = let q : x.slot ≡ p = cc in rw (← q) n
    go (Close x) n f = let q : x.slot ≡ p = cc in rw (← q) n

pub call_tenant : (s : SegmentTable) (c : Call) → call_valid s c ≡ true → c.tenant.0 < tenant_total
call_tenant s c e = valid_tenant s c.tenant c.label c.action e

pub call_slot : (s : SegmentTable) (c : Call) (p : Slot) → call_valid s c ≡ true → slot_for s c.tenant (call_row c.action).named ≡ Some p → p.0 < slot_total
call_slot s c p e f = valid_slot s c.tenant c.label c.action p e f

-- ---- two states that are alike for a tenant

-- both sound, the same in what no tenant call changes, and the same in t's own slots
pub record Alike (t : TenantId) (s u : SegmentTable) : Type 0 where
  pub sounds : (sound s ≡ true) × (sound u ≡ true)
  pub pool : s.pool ≡ u.pool
  pub records : s.tenants ≡ u.tenants
  pub own : (p : Slot) → owns s t p ≡ true → segment_at s p ≡ segment_at u p

pub alike_itself : (t : TenantId) (s : SegmentTable) → sound s ≡ true → Alike t s s
alike_itself t s h = record { sounds = (h, h); pool = refl; records = refl; own = λ p e. refl }

pub alike_swap : (t : TenantId) (s u : SegmentTable) → Alike t s u → Alike t u s
alike_swap t s u a =
    record {
      sounds = (a.sounds.1, a.sounds.0);
      pool = sym a.pool;
      records = sym a.records;
      own = λ p e. sym (a.own p (owns_kept s u t p a.records ∙ e));
    }

pub alike_join : (t : TenantId) (s u v : SegmentTable) → Alike t s u → Alike t u v → Alike t s v
alike_join t s u v a b =
    record {
      sounds = (a.sounds.0, b.sounds.1);
      pool = a.pool ∙ b.pool;
      records = a.records ∙ b.records;
      own = λ p e. a.own p e ∙ b.own p (sym (owns_kept s u t p a.records) ∙ e);
    }

pub visible_same : (s u : SegmentTable) (l : Label) (p : Slot) → segment_at s p ≡ segment_at u p → visible s l p ≡ visible u l p
unfolding visible filled
visible_same s u l p e = ap (λ (x : Segment). leb 1 x.pages && Label.dominates_of l x.label) e

-- a slot is there or not alike, with what follows alike where it is there
slot_same : {A : Type 0} (n : ℕ) (o q : Option Slot) (f g : Slot → Answer A) → o ≡ q → ((p : Slot) → o ≡ Some p → f p ≡ g p) → require_slot o n f ≡ require_slot q n g
slot_same n None q f g e h = rw (← e) refl
slot_same n (Some p) q f g e h = rw (← e) (h p refl)

module _ (t : TenantId) (s u : SegmentTable) (k : Alike t s u) where
  ceiling_same : ceiling_at s t ≡ ceiling_at u t
  ceiling_same = ap (λ (x : Tenant). x.ceiling) (tenant_same s u t k.records)

  pages_same : t.0 < tenant_total → pages_of s t ≡ pages_of u t
  unfolding pages_of
  pages_same h =
      sum_same (λ p. pages_at s (slot p)) (λ p. pages_at u (slot p)) (first_slot s t).0 (slot_count s t)
      (λ j a b. ap (λ (x : Segment). x.pages) (k.own (slot j) (own_of s t (slot j) h a b)))
      ∙ ap₂ (sum_from (λ p. pages_at u (slot p))) (ap (λ (p : Slot). p.0) (first_kept s u t k.records)) (count_kept s u t k.records)

  lowest_same : t.0 < tenant_total → lowest_empty s t ≡ lowest_empty u t
  unfolding lowest_empty filled
  lowest_same h =
      ap (λ (o : Option ℕ). cond (ltb t.0 tenant_total) (as_slot o) None)
      (first_same (empty_at s) (empty_at u) (first_slot s t).0 (slot_count s t)
      (λ j a b. ap (λ (x : Segment). not (leb 1 x.pages)) (k.own (slot j) (own_of s t (slot j) h a b)))
      ∙ ap₂ (first_from (empty_at u)) (ap (λ (p : Slot). p.0) (first_kept s u t k.records)) (count_kept s u t k.records))

  writable_same : (l : Label) (p : Slot) → writable s t l p ≡ writable u t l p
  unfolding writable filled
  writable_same l p = go (owns s t p) refl
    where
      go : (b : Bool) → owns s t p ≡ b
          → ((owns s t p && leb 1 (pages_at s p)) && Label.equal_of l (segment_at s p).label) ≡ ((owns u t p && leb 1 (pages_at u p)) && Label.equal_of l (segment_at u p).label)
      go true e =
          ap₂ (λ (b : Bool) (x : Segment). (b && leb 1 x.pages) && Label.equal_of l x.label) (owns_kept s u t p k.records) (k.own p e)
      go false e = rw (sym (owns_kept s u t p k.records) ∙ e, e)

  permitted_same : (l : Label) (a : Action) → LooksAtOwn s t a → (call_row a).permitted s t l ≡ (call_row a).permitted u t l
  permitted_same l (Open x) m = refl
  permitted_same l (Size x) m = writable_same l x.slot
  permitted_same l (Post x) m = writable_same l x.slot
  permitted_same l (Look x) m = visible_same s u l x.slot (k.own x.slot (m x.slot refl))
  permitted_same l (Close x) m = writable_same l x.slot

  slot_for_same : t.0 < tenant_total → (o : Option Slot) → slot_for s t o ≡ slot_for u t o
  slot_for_same h None = lowest_same h
  slot_for_same h (Some p) = refl

  fit_same : t.0 < tenant_total → (l : Label) (a : Action) → (call_row a).permitted s t l ≡ true → (call_row a).pages_fit s t ≡ (call_row a).pages_fit u t
  fit_same h l (Open x) e = ap₂ (λ (used limit : ℕ). leb (used + x.pages) limit) (pages_same h) ceiling_same
  fit_same h l (Size x) e =
      ap₂ (λ (used limit : ℕ). leb (used - pages_at s x.slot + x.pages) limit) (pages_same h) ceiling_same
      ∙ ap (λ (y : Segment). leb (pages_of u t - y.pages + x.pages) (ceiling_at u t)) (k.own x.slot (writable_own s t l x.slot e).0)
  fit_same h l (Post x) e = refl
  fit_same h l (Look x) e = refl
  fit_same h l (Close x) e = refl

  access_same : t.0 < tenant_total → (l : Label) (a : Action) → LooksAtOwn s t a → access_of s (call_of t l a) ≡ access_of u (call_of t l a)
  unfolding access_of
  access_same h l a m =
      require_same _ _ 13 _ _ (permitted_same l a m)
      (λ e. slot_same 28 _ _ _ _ (slot_for_same h (call_row a).named)
      (λ p i. require_same _ _ 12 _ _ (fit_same h l a e)
      (λ g. ap (λ (x : Segment). granted (effect_on p x l a)) (k.own p (target_own s t l a p h m e i)))))

  valid_same : (l : Label) (a : Action) → call_valid s (call_of t l a) ≡ call_valid u (call_of t l a)
  unfolding call_valid admitted
  valid_same l a =
      ap (λ (x : Tenant). (ltb t.0 tenant_total && leb 1 x.ceiling) && Label.valid_of l && (call_row a).numbers_valid) (tenant_same s u t k.records)

  cleared_same : (l : Label) (a : Action) → cleared s (call_of t l a) ≡ cleared u (call_of t l a)
  unfolding cleared
  cleared_same l a = ap (λ (x : Tenant). Tuple.contains_of x.clearance l) (tenant_same s u t k.records)

  -- what a call does and answers depends on its caller's own slots and on what never changes
  pub decision_same : (l : Label) (a : Action) → LooksAtOwn s t a → decision_on s (call_of t l a) ≡ decision_on u (call_of t l a)
  unfolding decision_on
  decision_same l a m =
      require_same _ _ 22 _ _ (k.sounds.0 ∙ sym k.sounds.1)
      (λ e. require_same _ _ 22 _ _ (valid_same l a)
      (λ f. require_same _ _ 1 _ _ (cleared_same l a)
      (λ g. access_same (valid_tenant s t l a f) l a m)))

-- ---- what a call changes

pub step_answer : (s : SegmentTable) (c : Call) → (step_of s c).answer ≡ answered_by (decision_on s c)
unfolding step_of
step_answer s c = refl

pub answer_same : (t : TenantId) (s u : SegmentTable) → Alike t s u → (l : Label) (a : Action) → LooksAtOwn s t a
    → (step_of s (call_of t l a)).answer ≡ (step_of u (call_of t l a)).answer
answer_same t s u k l a m = step_answer s (call_of t l a) ∙ ap answered_by (decision_same t s u k l a m) ∙ sym (step_answer u (call_of t l a))

pub next_refused : (s : SegmentTable) (c : Call) (n : ℕ) (detail : Option ℕ) → decision_on s c ≡ refused n detail → (step_of s c).table ≡ s
unfolding step_of
next_refused s c n detail e = rw e

pub next_granted : (s : SegmentTable) (c : Call) (x : CallEffect) → decision_on s c ≡ granted x → (step_of s c).table ≡ with_segment s x.slot x.segment
unfolding step_of
next_granted s c x e = rw e

-- by what it answers: a refused call leaves the state as it was
pub refused_next : (s : SegmentTable) (c : Call) (n : ℕ) (detail : Option ℕ) → (step_of s c).answer ≡ refused n detail → (step_of s c).table ≡ s
unfolding step_of
refused_next s c n detail e = go (decision_on s c) e
  where
    go : (x : Answer CallEffect) → answered_by x ≡ refused n detail → table_by s x ≡ s
    go (granted x) e = absurd (true≢false (ap is_granted e))
    go (refused m detail) e = refl

-- what a granted call has passed, and what it does
pub record Passed (s : SegmentTable) (t : TenantId) (l : Label) (a : Action) (x : CallEffect) : Type 0 where
  pub is_sound : sound s ≡ true
  pub is_valid : call_valid s (call_of t l a) ≡ true
  pub is_cleared : cleared s (call_of t l a) ≡ true
  pub is_permitted : (call_row a).permitted s t l ≡ true
  pub slot_is : slot_for s t (call_row a).named ≡ Some x.slot
  pub fits : (call_row a).pages_fit s t ≡ true
  pub effect_is : x ≡ effect_on x.slot (segment_at s x.slot) l a

pub granted_passed : (s : SegmentTable) (t : TenantId) (l : Label) (a : Action) (x : CallEffect) → decision_on s (call_of t l a) ≡ granted x → Passed s t l a x
unfolding decision_on access_of
granted_passed s t l a x e =
    let e1 = grant_passed (sound s) 22 x _ (sym e) in
    let e2 = grant_passed (call_valid s (call_of t l a)) 22 x _ e1.1 in
    let e3 = grant_passed (cleared s (call_of t l a)) 1 x _ e2.1 in
    let e4 = grant_passed ((call_row a).permitted s t l) 13 x _ e3.1 in
    at (slot_for s t (call_row a).named) refl e1.0 e2.0 e3.0 e4.0 e4.1
  where
    at : (o : Option Slot) → slot_for s t (call_row a).named ≡ o → sound s ≡ true → call_valid s (call_of t l a) ≡ true → cleared s (call_of t l a) ≡ true → (call_row a).permitted s t l ≡ true
        → granted x ≡ require_slot o 28 (λ p. require ((call_row a).pages_fit s t) 12 (granted (effect_on p (segment_at s p) l a))) → Passed s t l a x
    at None i h v c w e = absurd (true≢false (ap is_granted e))
    at (Some p) i h v c w e =
        let f = grant_passed ((call_row a).pages_fit s t) 12 x _ e in
        let g : x ≡ effect_on p (segment_at s p) l a = cc in
        let q : p ≡ x.slot = ap (λ (x : CallEffect). x.slot) (sym g) in
        record {
          is_sound = h;
          is_valid = v;
          is_cleared = c;
          is_permitted = w;
          slot_is = i ∙ ap Some q;
          fits = f.0;
          effect_is = g ∙ ap (λ (p : Slot). effect_on p (segment_at s p) l a) q;
        }

-- what a state has, and has with whatever segment in a slot, the state that a call leaves has
step_has : (P : SegmentTable → Type 0) (s : SegmentTable) (c : Call) → P s → ((p : Slot) (x : Segment) → P (with_segment s p x)) → P (step_of s c).table
unfolding step_of
step_has P s c h f = go (decision_on s c)
  where
    go : (x : Answer CallEffect) → P (table_by s x)
    go (granted x) = f x.slot x.segment
    go (refused n detail) = h

-- pool, clearances and ceilings stay
pub pool_kept : (s : SegmentTable) (c : Call) → (step_of s c).table.pool ≡ s.pool
pool_kept s c = step_has (λ u. u.pool ≡ s.pool) s c refl (λ p x. refl)

pub records_kept : (s : SegmentTable) (c : Call) → (step_of s c).table.tenants ≡ s.tenants
records_kept s c = step_has (λ u. u.tenants ≡ s.tenants) s c refl (λ p x. refl)

-- ---- looks, and calls that don't look

abbrev look_of : Slot → Action
look_of p = Look (record { slot = p })

looks : (a : Action) (p : Slot) → (call_row a).looked_at ≡ Some p → a ≡ look_of p
looks (Open x) p e = absurd (none-some p e)
looks (Size x) p e = absurd (none-some p e)
looks (Post x) p e = absurd (none-some p e)
looks (Look x) p e = let q : x.slot ≡ p = cc in ap look_of q
looks (Close x) p e = absurd (none-some p e)

-- a look changes nothing
pub look_next : (s : SegmentTable) (t : TenantId) (l : Label) (a : Action) (p : Slot) → (call_row a).looked_at ≡ Some p → (step_of s (call_of t l a)).table ≡ s
look_next s t l a p e = ap (λ (a : Action). (step_of s (call_of t l a)).table) (looks a p e) ∙ go (decision_on s (call_of t l (look_of p))) refl
  where
    go : (y : Answer CallEffect) → decision_on s (call_of t l (look_of p)) ≡ y → (step_of s (call_of t l (look_of p))).table ≡ s
    go (granted x) f =
        next_granted s (call_of t l (look_of p)) x f
        ∙ ap (λ (x : CallEffect). with_segment s x.slot x.segment) (granted_passed s t l (look_of p) x f).effect_is
        ∙ segment_same s x.slot
    go (refused n detail) f = next_refused s (call_of t l (look_of p)) n detail f

-- what a look answers once it has passed the checks before: the slot, if it is visible
pub look_access : (s : SegmentTable) (t : TenantId) (l : Label) (a : Action) (p : Slot) → (call_row a).looked_at ≡ Some p
    → answered_by (access_of s (call_of t l a)) ≡ require (visible s l p) 13 (granted (shown (segment_at s p)))
unfolding access_of
look_access s t l a p e = ap (λ (a : Action). answered_by (access_of s (call_of t l a))) (looks a p e) ∙ go (visible s l p)
  where
    go : (b : Bool) → answered_by (require b 13 (granted (effect_on p (segment_at s p) l (look_of p)))) ≡ require b 13 (granted (shown (segment_at s p)))
    go true = refl
    go false = refl

-- a call that doesn't look
pub looks_at_own : (s : SegmentTable) (t : TenantId) (a : Action) → (call_row a).looked_at ≡ None → LooksAtOwn s t a
looks_at_own s t a e p f = absurd (none-some p (sym e ∙ f))

-- what a call does: it looks, is refused, or puts what it writes into a slot of its caller's own
pub data Effect (s : SegmentTable) (t : TenantId) (l : Label) (a : Action) : Type 0 where
  looking : (p : Slot) → (call_row a).looked_at ≡ Some p → Effect s t l a
  refusing : (n : ℕ) (detail : Option ℕ) → (call_row a).looked_at ≡ None → decision_on s (call_of t l a) ≡ refused n detail → Effect s t l a
  writing : (x : CallEffect) → (call_row a).looked_at ≡ None → decision_on s (call_of t l a) ≡ granted x → Passed s t l a x → owns s t x.slot ≡ true → Effect s t l a

pub effect : (s : SegmentTable) (t : TenantId) (l : Label) (a : Action) → Effect s t l a
effect s t l a = go (call_row a).looked_at refl (decision_on s (call_of t l a)) refl
  where
    go : (o : Option Slot) → (call_row a).looked_at ≡ o → (x : Answer CallEffect) → decision_on s (call_of t l a) ≡ x → Effect s t l a
    go (Some p) m x e = looking p m
    go None m (refused n detail) e = refusing n detail m e
    go None m (granted x) e =
        let r = granted_passed s t l a x e in
        writing x m e r (target_own s t l a x.slot (valid_tenant s t l a r.is_valid) (looks_at_own s t a m) r.is_permitted r.slot_is)

-- a call leaves the slots of all others as they were
pub untouched : (s : SegmentTable) (t : TenantId) (l : Label) (a : Action) (p : Slot) → owns s t p ≡ false → segment_at (step_of s (call_of t l a)).table p ≡ segment_at s p
untouched s t l a p h = by (effect s t l a)
  where
    by : Effect s t l a → segment_at (step_of s (call_of t l a)).table p ≡ segment_at s p
    by (looking q e) = ap (λ (u : SegmentTable). segment_at u p) (look_next s t l a q e)
    by (refusing n detail m e) = ap (λ (u : SegmentTable). segment_at u p) (next_refused s (call_of t l a) n detail e)
    by (writing x m e r o) =
        ap (λ (u : SegmentTable). segment_at u p) (next_granted s (call_of t l a) x e)
        ∙ segment_kept s x.slot p _ (λ i. true≢false (sym (ap (owns s t) (same_slot p x.slot i) ∙ o) ∙ h))

-- what a call makes of its caller's own slots depends on these and on what never changes
module _ (t : TenantId) (s u : SegmentTable) (k : Alike t s u) where
  -- the same segment put into the same slot
  written_same : (q : Slot) (x : Segment) (p : Slot) → q.0 < slot_total → segment_at s p ≡ segment_at u p → segment_at (with_segment s q x) p ≡ segment_at (with_segment u q x) p
  written_same q x p h e =
      by_slot (λ (p : Slot). segment_at s p ≡ segment_at u p → segment_at (with_segment s q x) p ≡ segment_at (with_segment u q x) p) q p
      (λ e. segment_written s q x (sound_parts s k.sounds.0).lengths h ∙ sym (segment_written u q x (sound_parts u k.sounds.1).lengths h))
      (λ p i e. segment_kept s q p x i ∙ e ∙ sym (segment_kept u q p x i)) e

  pub own_next : (l : Label) (a : Action) (p : Slot) → owns s t p ≡ true → segment_at (step_of s (call_of t l a)).table p ≡ segment_at (step_of u (call_of t l a)).table p
  own_next l a p h = by (effect s t l a)
    where
      by : Effect s t l a → segment_at (step_of s (call_of t l a)).table p ≡ segment_at (step_of u (call_of t l a)).table p
      by (looking q e) = rw (look_next s t l a q e, look_next u t l a q e) (k.own p h)
      by (refusing n detail m e) =
          rw (next_refused s (call_of t l a) n detail e, next_refused u (call_of t l a) n detail (sym (decision_same t s u k l a (looks_at_own s t a m)) ∙ e)) (k.own p h)
      by (writing x m e r o) =
          rw (next_granted s (call_of t l a) x e, next_granted u (call_of t l a) x (sym (decision_same t s u k l a (looks_at_own s t a m)) ∙ e))
          (written_same x.slot x.segment p (own_slot s t x.slot o) (k.own p h))

-- ---- what two states that are alike answer before a slot is looked into

-- the checks before the slots are looked into end alike: refused with 22, refused with 1, or passed
pub data Checked (s u : SegmentTable) (c : Call) : Type 0 where
  both_refused : (n : ℕ) → (n ≡ 22) ⊎ (n ≡ 1) → (step_of s c).answer ≡ refused n None → (step_of u c).answer ≡ refused n None → Checked s u c
  both_passed : (step_of s c).answer ≡ answered_by (access_of s c) → (step_of u c).answer ≡ answered_by (access_of u c) → Checked s u c

pub checked : (t : TenantId) (s u : SegmentTable) → Alike t s u → (l : Label) (a : Action) → Checked s u (call_of t l a)
unfolding decision_on step_of
checked t s u k l a =
    go (call_valid u (call_of t l a)) (cleared u (call_of t l a)) refl refl
  where
    go : (q r : Bool) → call_valid u (call_of t l a) ≡ q → cleared u (call_of t l a) ≡ r → Checked s u (call_of t l a)
    go false r e f =
        both_refused 22 (inl refl)
        (rw (k.sounds.0, valid_same t s u k l a, e) refl)
        (rw (k.sounds.1, e) refl)
    go true false e f =
        both_refused 1 (inr refl)
        (rw (k.sounds.0, valid_same t s u k l a, e, cleared_same t s u k l a, f) refl)
        (rw (k.sounds.1, e, f) refl)
    go true true e f =
        both_passed
        (rw (k.sounds.0, valid_same t s u k l a, e, cleared_same t s u k l a, f) refl)
        (rw (k.sounds.1, e, f) refl)

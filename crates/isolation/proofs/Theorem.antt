-- Demand 3, proved. A slot with an owner holds, after any list of calls, what its owner's calls alone make of it; a slot without one stays
-- as it was; and a call answers by its caller's own slots, by what never changes, and by what is visible of a slot that it looks at.
-- `step_of` is not opened here: CallsLaws and CallSoundLaws of `segments` say what is needed of it.
use mathlib.Core.Bool.{Bool, true, false, cond, true≢false}
use mathlib.Core.List.{List, [], ◌∷◌, Forall₂, List-discrete}
use mathlib.Core.Logic.{◌⊎◌, inl, inr, ⊎_elim}
use Rattle.std.specs.Prelude.{Option, None, Some}
use mathlib.Core.Path.{◌≡◌, refl, sym, ap, ap₂, ◌∙◌, subst}
use Prim.Native.Nat.{ℕ}
use native.Mathlib.Decide.{ℕ_discrete}
use native.Mathlib.Omega.{arith}
use borrow.Author.Tests.{eqb-false, eqb-true}
use lib.Dec.{eqb}
use Rattle.common.specs.Answer.{granted, refused, require}
use Rattle.common.specs.Index.{some_below}
use Rattle.label.specs.Label.{label_of}
use Rattle.label.specs.declared.Label.{Label}
use Rattle.common.proofs.BoolLaws.{not_so}
use Rattle.common.proofs.SearchLaws.{any_then, none_of}
use Rattle.segments.specs.Calls.{call_row, step_of, visible}
use Rattle.segment_table.specs.declared.Reply.TheVariants.{Shown as shown}
use Rattle.segment_table.specs.Segments.{segment_at, segment_of, tenant_id, tenant_total}
use Rattle.segment_table.specs.Slots.{owns}
use Rattle.segment_table.specs.Sound.{sound}
use Rattle.segments.specs.declared.Call.{Call}
use Rattle.segment_table.specs.declared.Segment.{Segment}
use Rattle.segment_table.specs.declared.SegmentTable.{SegmentTable}
use Rattle.segment_table.specs.declared.Slot.{Slot}
use Rattle.segment_table.specs.declared.Tenant.{Tenant}
use Rattle.segment_table.specs.declared.TenantId.{TenantId}
use Rattle.segments.proofs.CallSoundLaws.{call_sound}
use Rattle.segments.proofs.CallsLaws.{Alike, Checked, alike_itself, alike_join, alike_swap, answer_same, both_passed, both_refused, checked, look_access, looks_at_own, own_next, pool_kept, records_kept, untouched, visible_same}
use Rattle.segment_table.proofs.SegmentsLaws.{same_table, tenant_same}
use Rattle.segment_table.proofs.SlotsLaws.{own_parts, owner_unique, owns_kept, same_tenant}
use Rattle.segment_table.proofs.SoundLaws.{sound_parts}
use Rattle.isolation.specs.Isolation.{Agree, Compared, Different, Each, Entry, Interleaving, Isolation, Limited, LookCompared, Not22or1, calls_of, next, other_slot, project, run, states, tenant_entries, trace}

-- ---- a call keeps two states alike for a tenant: its own in both, another's in either

alike_own : (s u : SegmentTable) (c : Call) → Alike c.tenant s u → Alike c.tenant (next s c) (next u c)
alike_own s u c k =
    record {
      sounds = (call_sound s c.tenant c.label c.action k.sounds.0, call_sound u c.tenant c.label c.action k.sounds.1);
      pool = pool_kept s c ∙ k.pool ∙ sym (pool_kept u c);
      records = records_kept s c ∙ k.records ∙ sym (records_kept u c);
      own = λ p e. own_next c.tenant s u k c.label c.action p (sym (owns_kept (next s c) s c.tenant p (records_kept s c)) ∙ e);
    }

alike_other : (t : TenantId) (s u : SegmentTable) (c : Call) → (c.tenant ≡ t → ⊥) → Alike t s u → Alike t (next s c) u
alike_other t s u c h k =
    record {
      sounds = (call_sound s c.tenant c.label c.action k.sounds.0, k.sounds.1);
      pool = pool_kept s c ∙ k.pool;
      records = records_kept s c ∙ k.records;
      own = λ p e.
          let o : owns s t p ≡ true = sym (owns_kept (next s c) s t p (records_kept s c)) ∙ e in
          untouched s c.tenant c.label c.action p (not_so _ (λ f. h (owner_unique s c.tenant t p f o))) ∙ k.own p o;
    }

-- so after a call of t's own both states are alike for t, and after another's the first and what the second was
alike_next : (t : TenantId) (s u : SegmentTable) (c : Call) → Alike t s u → (b : Bool) → eqb c.tenant.0 t.0 ≡ b → Alike t (next s c) (cond b (next u c) u)
alike_next t s u c k true e =
    let q = same_tenant c.tenant t (eqb-true _ _ e) in
    subst (λ (t : TenantId). Alike t (next s c) (next u c)) q (alike_own s u c (subst (λ (t : TenantId). Alike t s u) (sym q) k))
alike_next t s u c k false e = alike_other t s u c (λ q. eqb-false _ _ e (ap (λ (t : TenantId). t.0) q)) k

-- ---- the state after a list, by the calls of one tenant

run_alike : (t : TenantId) (xs : List Call) (s u : SegmentTable) → Alike t s u → Alike t (run s xs) (run u (calls_of t xs))
unfolding run project
run_alike t [] s u k = k
run_alike t (c ∷ cs) s u k = go (eqb c.tenant.0 t.0) refl (run_alike t cs (next s c) (next u c)) (run_alike t cs (next s c) u)
  where
    go : (b : Bool) → eqb c.tenant.0 t.0 ≡ b
        → (Alike t (next s c) (next u c) → Alike t (run (next s c) cs) (run (next u c) (calls_of t cs)))
        → (Alike t (next s c) u → Alike t (run (next s c) cs) (run u (calls_of t cs)))
        → Alike t (run (next s c) cs) (run u (cond b (c ∷ calls_of t cs) (calls_of t cs)))
    go true e own other = own (alike_next t s u c k true e)
    go false e own other = other (alike_next t s u c k false e)

-- ---- the states of a list

-- what every state of a list has
record Reached (s u : SegmentTable) : Type 0 where
  pub is_sound : sound u ≡ true
  pub pool : u.pool ≡ s.pool
  pub records : u.tenants ≡ s.tenants

reached_itself : (s : SegmentTable) → sound s ≡ true → Reached s s
reached_itself s h = record { is_sound = h; pool = refl; records = refl }

reached_next : (s u : SegmentTable) (c : Call) → Reached s u → Reached s (next u c)
reached_next s u c r =
    record {
      is_sound = call_sound u c.tenant c.label c.action r.is_sound;
      pool = pool_kept u c ∙ r.pool;
      records = records_kept u c ∙ r.records;
    }

run_reached : (xs : List Call) (s u : SegmentTable) → Reached s u → Reached s (run u xs)
unfolding run
run_reached [] s u r = r
run_reached (c ∷ cs) s u r = run_reached cs s (next u c) (reached_next s u c r)

limited : (s u : SegmentTable) → Reached s u → Limited s u
limited s u r =
    record {
      pool = r.pool;
      clearances = λ t. ap (λ (x : Tenant). x.clearance) (tenant_same u s t r.records);
      ceilings = λ t. ap (λ (x : Tenant). x.ceiling) (tenant_same u s t r.records);
      pages = (sound_parts u r.is_sound).pages;
    }

all_limited : (xs : List Call) (s u : SegmentTable) → Reached s u → Each (Limited s) (states u xs)
unfolding states Each
all_limited [] s u r = (limited s u r, _)
all_limited (c ∷ cs) s u r = (limited s u r, all_limited cs s (next u c) (reached_next s u c r))

-- ---- the state after both lists

-- a slot that nobody owns stays as it was
unowned : (p : Slot) (xs : List Call) (s : SegmentTable) → ((t : TenantId) → owns s t p ≡ false) → segment_at (run s xs) p ≡ segment_at s p
unfolding run
unowned p [] s h = refl
unowned p (c ∷ cs) s h =
    unowned p cs (next s c) (λ t. owns_kept (next s c) s t p (records_kept s c) ∙ h t)
    ∙ untouched s c.tenant c.label c.action p (h c.tenant)

same_slots : (s : SegmentTable) (xs ys : List Call) → sound s ≡ true → Interleaving xs ys → (p : Slot) → segment_at (run s xs) p ≡ segment_at (run s ys) p
same_slots s xs ys h i p = go (some_below (λ t. owns s (tenant_id t) p) tenant_total) refl
  where
    after : (t : TenantId) (zs : List Call) → owns s t p ≡ true → segment_at (run s zs) p ≡ segment_at (run s (calls_of t zs)) p
    after t zs o =
        let k = run_alike t zs s s (alike_itself t s h) in
        k.own p (owns_kept (run s zs) s t p (run_reached zs s s (reached_itself s h)).records ∙ o)

    go : (b : Bool) → some_below (λ t. owns s (tenant_id t) p) tenant_total ≡ b → segment_at (run s xs) p ≡ segment_at (run s ys) p
    go true e =
        any_then (λ t. owns s (tenant_id t) p) tenant_total e
        (λ t m o. after (tenant_id t) xs o ∙ ap (λ (zs : List Call). segment_at (run s zs) p) (i (tenant_id t)) ∙ sym (after (tenant_id t) ys o))
    go false e =
        let nobody : (t : TenantId) → owns s t p ≡ false =
        λ t. not_so _ (λ o. true≢false (sym o ∙ none_of (λ t. owns s (tenant_id t) p) tenant_total t.0 e (own_parts s t p o).tenant)) in
        unowned p xs s nobody ∙ sym (unowned p ys s nobody)

-- ---- what is answered

-- a look that has passed the checks before its slot is looked into answers 13 or what is shown: so neither 22 nor 1
not_22_or_1 : (v : Bool) (x : Segment) → Not22or1 (require v 13 (granted (shown x)))
not_22_or_1 true x detail = (λ e. let z : ◌≡◌ {A = ℕ} 0 1 = cc in absurd (omega arith), λ e. let z : ◌≡◌ {A = ℕ} 0 1 = cc in absurd (omega arith))
not_22_or_1 false x detail = (λ e. let z : ◌≡◌ {A = ℕ} 13 22 = cc in absurd (omega arith), λ e. let z : ◌≡◌ {A = ℕ} 13 1 = cc in absurd (omega arith))

-- two such answers that differ: one of the two is shown
one_seen : (v w : Bool) (x y : Segment) → (require v 13 (granted (shown x)) ≡ require w 13 (granted (shown y)) → ⊥) → (v ≡ true) ⊎ (w ≡ true)
one_seen true w x y h = inl refl
one_seen false true x y h = inr refl
one_seen false false x y h = absurd (h refl)

-- two such answers of which one is shown: they are the same only if what they look at is
seen_same : (v w : Bool) (x y : Segment) → (v ≡ true) ⊎ (w ≡ true) → require v 13 (granted (shown x)) ≡ require w 13 (granted (shown y)) → x ≡ y
seen_same true true x y s e = cc
seen_same true false x y s e = let z : ◌≡◌ {A = ℕ} 0 1 = cc in absurd (omega arith)
seen_same false true x y s e = let z : ◌≡◌ {A = ℕ} 0 1 = cc in absurd (omega arith)
seen_same false false x y (inl e) f = absurd (true≢false (sym e))
seen_same false false x y (inr e) f = absurd (true≢false (sym e))

-- whether two segments are equal can be told
segment_told : (x y : Segment) → (x ≡ y) ⊎ (x ≡ y → ⊥)
segment_told x y = by (ℕ_discrete x.label.hierarchy y.label.hierarchy) (List-discrete ℕ_discrete x.label.categories y.label.categories) (ℕ_discrete x.pages y.pages) (ℕ_discrete x.version y.version)
  where
    by : Dec (x.label.hierarchy ≡ y.label.hierarchy) → Dec (x.label.categories ≡ y.label.categories) → Dec (x.pages ≡ y.pages) → Dec (x.version ≡ y.version) → (x ≡ y) ⊎ (x ≡ y → ⊥)
    by (yes h) (yes c) (yes n) (yes v) = inl (ap₂ (λ (l : Label) (k : ℕ). segment_of l k x.version) (ap₂ label_of h c) n ∙ ap (λ (k : ℕ). segment_of y.label y.pages k) v)
    by (no h) c n v = inr (λ e. h (ap (λ (x : Segment). x.label.hierarchy) e))
    by (yes h) (no c) n v = inr (λ e. c (ap (λ (x : Segment). x.label.categories) e))
    by (yes h) (yes c) (no n) v = inr (λ e. n (ap (λ (x : Segment). x.pages) e))
    by (yes h) (yes c) (yes n) (no v) = inr (λ e. v (ap (λ (x : Segment). x.version) e))

-- and so can it be whether two such answers are
shown_told : (v w : Bool) (x y : Segment) → let a = require v 13 (granted (shown x)) in let b = require w 13 (granted (shown y)) in (a ≡ b) ⊎ (a ≡ b → ⊥)
shown_told true true x y =
    ⊎_elim (λ (e : x ≡ y). inl (ap (λ (x : Segment). granted (shown x)) e)) (λ (n : x ≡ y → ⊥). inr (λ e. n (seen_same true true x y (inl refl) e))) (segment_told x y)
shown_told true false x y = inr (λ e. let z : ◌≡◌ {A = ℕ} 0 1 = cc in absurd (omega arith))
shown_told false true x y = inr (λ e. let z : ◌≡◌ {A = ℕ} 0 1 = cc in absurd (omega arith))
shown_told false false x y = inl refl

abbrev entry : SegmentTable → Call → Entry
entry s c = record { call = c; table = s; answer = (step_of s c).answer }

-- a look at a slot of another's: the answers differ exactly as demand 3 says, and are equal otherwise
look_compared : (s u : SegmentTable) (c : Call) (p : Slot) → Alike c.tenant s u → (call_row c.action).looked_at ≡ Some p → LookCompared p (entry s c) (entry u c)
look_compared s u c p k e = by (checked c.tenant s u k c.label c.action)
  where
    by : Checked s u c → LookCompared p (entry s c) (entry u c)
    by (both_refused n m f g) =
        record {
          differ = (
            λ h. absurd (h (f ∙ sym g)),
            λ d. absurd (⊎_elim (λ (q : n ≡ 22). (d.unrefused.0 None).0 (f ∙ ap (λ (n : ℕ). refused n None) q)) (λ (q : n ≡ 1). (d.unrefused.0 None).1 (f ∙ ap (λ (n : ℕ). refused n None) q)) m),
          );
          equal = λ h. f ∙ sym g;
        }
    by (both_passed f g) =
        let a : (step_of s c).answer ≡ require (visible s c.label p) 13 (granted (shown (segment_at s p))) = f ∙ look_access s c.tenant c.label c.action p e in
        let b : (step_of u c).answer ≡ require (visible u c.label p) 13 (granted (shown (segment_at u p))) = g ∙ look_access u c.tenant c.label c.action p e in
        let same : segment_at s p ≡ segment_at u p → (step_of s c).answer ≡ (step_of u c).answer =
        λ q. a ∙ ap₂ (λ (w : Bool) (x : Segment). require w 13 (granted (shown x))) (visible_same s u c.label p q) q ∙ sym b in
        let different : ((step_of s c).answer ≡ (step_of u c).answer → ⊥) → Different p (entry s c) (entry u c) =
        λ h.
        record {
          unrefused = (subst Not22or1 (sym a) (not_22_or_1 (visible s c.label p) (segment_at s p)), subst Not22or1 (sym b) (not_22_or_1 (visible u c.label p) (segment_at u p)));
          changed = λ q. absurd (h (same q));
          seen = one_seen (visible s c.label p) (visible u c.label p) (segment_at s p) (segment_at u p) (λ q. h (a ∙ q ∙ sym b));
        }
        in
        record {
          differ = (
            different,
            λ d q. d.changed (seen_same (visible s c.label p) (visible u c.label p) (segment_at s p) (segment_at u p) d.seen (sym a ∙ q ∙ b)),
          );
          equal = λ h.
              ⊎_elim (λ q. a ∙ q ∙ sym b) (λ n. absurd (h (different (λ q. n (sym a ∙ q ∙ b)))))
              (shown_told (visible s c.label p) (visible u c.label p) (segment_at s p) (segment_at u p));
        }

-- the k-th call of a tenant in two lists
compared : (s u : SegmentTable) (c : Call) → Alike c.tenant s u → Compared (other_slot s c.tenant (call_row c.action).looked_at) (entry s c) (entry u c)
compared s u c k = go (call_row c.action).looked_at refl
  where
    same : ((p : Slot) → (call_row c.action).looked_at ≡ Some p → owns s c.tenant p ≡ true) → (step_of s c).answer ≡ (step_of u c).answer
    same m = answer_same c.tenant s u k c.label c.action m

    at : (p : Slot) → (call_row c.action).looked_at ≡ Some p → (b : Bool) → owns s c.tenant p ≡ b → Compared (cond b None (Some p)) (entry s c) (entry u c)
    at p e true o = same (λ q f. let i : p ≡ q = cc in ap (owns s c.tenant) (sym i) ∙ o)
    at p e false o = look_compared s u c p k e

    go : (o : Option Slot) → (call_row c.action).looked_at ≡ o → Compared (other_slot s c.tenant o) (entry s c) (entry u c)
    go None e = same (looks_at_own s c.tenant c.action e)
    go (Some p) e = at p e (owns s c.tenant p) refl

-- ---- the entries of one tenant

-- entries of t, with its calls: each got a state that is alike for t to the one that t's calls alone lead to
unfoldable Follows : TenantId → SegmentTable → List Call → List Entry → Type 0
Follows t u [] [] = Unit {0}
Follows t u [] (e ∷ es) = ⊥
Follows t u (c ∷ cs) [] = ⊥
Follows t u (c ∷ cs) (e ∷ es) = (e ≡ entry e.table c) × (c.tenant ≡ t) × Alike t e.table u × Follows t (next u c) cs es

follow : (t : TenantId) (xs : List Call) (s u : SegmentTable) → Alike t s u → Follows t u (calls_of t xs) (tenant_entries t (trace s xs))
unfolding trace project Follows
follow t [] s u k = _
follow t (c ∷ cs) s u k = go (eqb c.tenant.0 t.0) refl (follow t cs (next s c) (next u c)) (follow t cs (next s c) u)
  where
    go : (b : Bool) → eqb c.tenant.0 t.0 ≡ b
        → (Alike t (next s c) (next u c) → Follows t (next u c) (calls_of t cs) (tenant_entries t (trace (next s c) cs)))
        → (Alike t (next s c) u → Follows t u (calls_of t cs) (tenant_entries t (trace (next s c) cs)))
        → Follows t u (cond b (c ∷ calls_of t cs) (calls_of t cs)) (cond b (entry s c ∷ tenant_entries t (trace (next s c) cs)) (tenant_entries t (trace (next s c) cs)))
    go true e own other = (refl, same_tenant c.tenant t (eqb-true _ _ e), k, own (alike_next t s u c k true e))
    go false e own other = other (alike_next t s u c k false e)

agree : (t : TenantId) (u : SegmentTable) (c : Call) (e f : Entry) → e ≡ entry e.table c → f ≡ entry f.table c → c.tenant ≡ t
    → Alike t e.table u → Alike t f.table u → Agree e f
agree t u c e f p q m a b =
    let k : Alike c.tenant e.table f.table = subst (λ (t : TenantId). Alike t e.table f.table) (sym m) (alike_join t e.table u f.table a (alike_swap t f.table u b)) in
    let r : Agree (entry e.table c) (entry f.table c) = record { call = refl; answer = compared e.table f.table c k } in
    subst (λ (x : Entry). Agree x f) (sym p) (subst (λ (y : Entry). Agree (entry e.table c) y) (sym q) r)

follows_agree : (t : TenantId) (u : SegmentTable) (cs : List Call) (es fs : List Entry) → Follows t u cs es → Follows t u cs fs → Forall₂ Agree es fs
unfolding Follows
follows_agree t u [] [] [] a b = Forall₂.nil
follows_agree t u [] [] (f ∷ fs) a b = absurd b
follows_agree t u [] (e ∷ es) fs a b = absurd a
follows_agree t u (c ∷ cs) [] fs a b = absurd a
follows_agree t u (c ∷ cs) (e ∷ es) [] a b = absurd b
follows_agree t u (c ∷ cs) (e ∷ es) (f ∷ fs) a b =
    Forall₂.cons (agree t u c e f a.0 b.0 a.1 a.2 b.2) (follows_agree t (next u c) cs es fs a.3 b.3)

-- ---- demand 3

pub isolation : Isolation
isolation s h xs ys i =
    let start = reached_itself s h in
    let x = run_reached xs s s start in
    let y = run_reached ys s s start in
    record {
      table = same_table (run s xs) (run s ys) (sound_parts _ x.is_sound).lengths (sound_parts _ y.is_sound).lengths (x.pool ∙ sym y.pool) (x.records ∙ sym y.records) (λ p b. same_slots s xs ys h i p);
      answers = λ t.
          let k = alike_itself t s h in
          follows_agree t s (calls_of t ys) _ _ (subst (λ (cs : List Call). Follows t s cs (tenant_entries t (trace s xs))) (i t) (follow t xs s s k)) (follow t ys s s k);
      limits = (all_limited xs s s start, all_limited ys s s start);
    }

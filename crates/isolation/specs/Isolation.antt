-- Demand 3 of 00-demands.md, over the calls of document 01's table (`step_of`).
use Rattle.std.specs.Prelude.{true, cond, ◌⊎◌, ◌↔◌, ◌≡◌, ℕ, ◌<◌, ◌≤◌, eqb, Option, None, Some}
use mathlib.Core.List.{List, [], ◌∷◌, Forall₂}
use Rattle.common.specs.Answer.{Answer, refused}
use Rattle.segments.specs.Calls.{call_row, step_of, visible}
use Rattle.segment_table.specs.declared.Reply.{Reply as Grant}
use Rattle.segment_table.specs.Segments.{ceiling_at, clearance_at, segment_at, tenant_total}
use Rattle.segment_table.specs.Slots.{owns, pages_of}
use Rattle.segment_table.specs.Sound.{sound}
use Rattle.segments.specs.declared.Call.{Call}
use Rattle.segment_table.specs.declared.SegmentTable.{SegmentTable}
use Rattle.segment_table.specs.declared.Slot.{Slot}
use Rattle.segment_table.specs.declared.TenantId.{TenantId}

-- "Take any sound board and any list of tenant calls (open, size, post, look, close; refused ones too). The first gets that board, each
-- later one the board that the last one left, and nobody else touches it."

-- a call, the state that it got, and the answer that it got
pub record Entry : Type 0 where
  pub call : Call
  pub table : SegmentTable
  pub answer : Answer Grant

abbrev pub next : SegmentTable → Call → SegmentTable
next s c = (step_of s c).table

unfoldable pub trace : SegmentTable → List Call → List Entry
trace s [] = []
trace s (c ∷ cs) = record { call = c; table = s; answer = (step_of s c).answer } ∷ trace (next s c) cs

-- the state after all calls
unfoldable pub run : SegmentTable → List Call → SegmentTable
run s [] = s
run s (c ∷ cs) = run (next s c) cs

-- the first state, and the one after each call
unfoldable pub states : SegmentTable → List Call → List SegmentTable
states s [] = s ∷ []
states s (c ∷ cs) = s ∷ states (next s c) cs

-- "Take any second list that mixes the same calls in whatever way keeps each tenant's own order."

-- the part that carries tenant number t, in order; t is any number, admitted or not
unfoldable pub project : {A : Type 0} → (A → Call) → TenantId → List A → List A
project call t [] = []
project call t (x ∷ xs) = cond (eqb (call x).tenant.0 t.0) (x ∷ project call t xs) (project call t xs)

abbrev pub calls_of : TenantId → List Call → List Call
calls_of t = project (λ c. c) t

abbrev pub tenant_entries : TenantId → List Entry → List Entry
tenant_entries t = project (λ e. e.call) t

abbrev pub Interleaving : List Call → List Call → Type 0
Interleaving xs ys = (t : TenantId) → calls_of t xs ≡ calls_of t ys

-- "Every open, size, post and close gets the same answer in both, and so does every look at a place of the caller's own."

-- the slot of a look that is not at a place of the caller's own
abbrev pub other_slot : SegmentTable → TenantId → Option Slot → Option Slot
other_slot s t None = None
other_slot s t (Some p) = cond (owns s t p) None (Some p)

-- "Any other look gets different answers exactly when neither is the refusal 22 or 1, its place doesn't hold the same in both lists at
-- that moment, and in at least one the looker's label dominates the label there (an empty place has none)."

-- whatever further number the refusal carries
abbrev pub Not22or1 : Answer Grant → Type 0
Not22or1 a = (detail : Option ℕ) → (a ≡ refused 22 detail → ⊥) × (a ≡ refused 1 detail → ⊥)

pub record Different (p : Slot) (e f : Entry) : Type 0 where
  pub unrefused : Not22or1 e.answer × Not22or1 f.answer
  pub changed : segment_at e.table p ≡ segment_at f.table p → ⊥
  pub seen : (visible e.table e.call.label p ≡ true) ⊎ (visible f.table f.call.label p ≡ true)

-- a look at slot p, not of the caller's own: when the answers differ, and that else they are equal
pub record LookCompared (p : Slot) (e f : Entry) : Type 0 where
  pub differ : (e.answer ≡ f.answer → ⊥) ↔ Different p e f
  pub equal : (Different p e f → ⊥) → e.answer ≡ f.answer

abbrev pub Compared : Option Slot → Entry → Entry → Type 0
Compared None e f = e.answer ≡ f.answer
Compared (Some p) e f = LookCompared p e f

-- a tenant's k-th calls in two lists
pub record Agree (e f : Entry) : Type 0 where
  pub call : e.call ≡ f.call
  pub answer : Compared (other_slot e.table e.call.tenant (call_row e.call.action).looked_at) e f

-- "At the start and after every call, pool, clearances and ceilings are as they began, and each tenant's open pages are at most its
-- ceiling."

pub record Limited (s u : SegmentTable) : Type 0 where
  pub pool : u.pool ≡ s.pool
  pub clearances : (t : TenantId) → clearance_at u t ≡ clearance_at s t
  pub ceilings : (t : TenantId) → ceiling_at u t ≡ ceiling_at s t
  pub pages : (t : TenantId) → t.0 < tenant_total → pages_of u t ≤ ceiling_at u t

unfoldable pub Each : {A : Type 0} → (A → Type 0) → List A → Type 0
Each P [] = Unit {0}
Each P (x ∷ xs) = P x × Each P xs

-- what demand 3 says of two lists from a state s
pub record Isolated (s : SegmentTable) (xs ys : List Call) : Type 0 where
  -- "From the same board both lists end in the same board."
  pub table : run s xs ≡ run s ys
  -- the two sentences on answers, of every tenant number: its calls one by one, so also as many in both
  pub answers : (t : TenantId) → Forall₂ Agree (tenant_entries t (trace s xs)) (tenant_entries t (trace s ys))
  -- the sentence on what stays, of either list
  pub limits : Each (Limited s) (states s xs) × Each (Limited s) (states s ys)

-- "Operator calls are not part of this.": a Call is a tenant's
abbrev pub Isolation : Type 0
Isolation = (s : SegmentTable) → sound s ≡ true → (xs ys : List Call) → Interleaving xs ys → Isolated s xs ys

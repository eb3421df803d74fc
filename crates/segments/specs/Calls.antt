-- Document 01, "The board": the tenant calls.
use Rattle.std.specs.Prelude.{Bool, true, ◌&&◌, ◌≡◌, ℕ, ◌+◌, ◌-◌, leb, ltb, Option, None, Some, Result, Ok, Err}
use Rattle.common.specs.Answer.{Answer, answer_by, granted, refused, require}
use Rattle.common.specs.declared.errno.Errno.{Errno}
use Rattle.label.specs.Label
use Rattle.label.specs.declared.Label.{Label}
use Rattle.range.specs.Tuple
use Rattle.segment_table.specs.Replies.{Step}
use Rattle.segment_table.specs.Segments.{ceiling_at, clearance_at, pages_at, pages_valid, segment_at, segment_of, slot_total, with_segment, zero_segment}
use Rattle.segment_table.specs.Slots.{filled, lowest_empty, owns, pages_of}
use Rattle.segment_table.specs.Sound.{admitted, sound}
use Rattle.segments.specs.declared.Action.{Action}
use Rattle.segments.specs.declared.Action.TheVariants.{Open, Size, Post, Look, Close}
use Rattle.segments.specs.declared.Call.{Call}
use Rattle.segments.specs.declared.Change.{Change}
use Rattle.segment_table.specs.declared.CallOutcome.{CallOutcome}
use Rattle.segment_table.specs.declared.Reply.{Reply as Grant}
use Rattle.segment_table.specs.declared.Reply.TheVariants.{Done as done, Opened as opened, Shown as shown}
use Rattle.segment_table.specs.declared.Segment.{Segment}
use Rattle.segment_table.specs.declared.SegmentTable.{SegmentTable}
use Rattle.segment_table.specs.declared.Slot.{Slot}
use Rattle.segment_table.specs.declared.TenantId.{TenantId}

abbrev pub call_of : TenantId → Label → Action → Call
call_of t l a = record { tenant = t; label = l; action = a }

-- each of the five by its numbers
abbrev pub open_call : TenantId → Label → ℕ → Call
open_call t l pages = call_of t l (Open (record { pages = pages }))

abbrev pub size_call : TenantId → Label → Slot → ℕ → Call
size_call t l p pages = call_of t l (Size (record { slot = p; pages = pages }))

abbrev pub post_call : TenantId → Label → Slot → ℕ → Call
post_call t l p version = call_of t l (Post (record { slot = p; version = version }))

abbrev pub look_call : TenantId → Label → Slot → Call
look_call t l p = call_of t l (Look (record { slot = p }))

abbrev pub close_call : TenantId → Label → Slot → Call
close_call t l p = call_of t l (Close (record { slot = p }))

-- ---- the checks that look at a slot

-- 22: slot above 63
abbrev pub slot_valid : Slot → Bool
slot_valid p = ltb p.0 slot_total

-- 13: slot not its own, empty, or label not equal
unfoldable pub writable : SegmentTable → TenantId → Label → Slot → Bool
writable s t l p = owns s t p && filled s p && Label.equal_of l (segment_at s p).label

-- 13: empty or not dominated
unfoldable pub visible : SegmentTable → Label → Slot → Bool
visible s l p = filled s p && Label.dominates_of l (segment_at s p).label

-- ---- the table

-- what one call is: a row of document 01's table, with what the checks ask of it
pub record CallRow : Type 0 where
  -- 22: whether pages are 1 to 1,048,576, the slot at most 63
  pub numbers_valid : Bool
  -- the slot that the call names; an open names none
  pub named : Option Slot
  -- 13: what the subject needs of that slot
  pub permitted : SegmentTable → TenantId → Label → Bool
  -- 12: whether its pages would then be at most the ceiling
  pub pages_fit : SegmentTable → TenantId → Bool
  -- what the slot holds after the call, of what it held and the subject's label
  pub written : Segment → Label → Segment
  -- what a grant answers, of the slot and what it held
  pub answered : Slot → Segment → Grant
  -- the slot that is looked at
  pub looked_at : Option Slot

abbrev pub call_row : Action → CallRow
call_row (Open x) =
    record {
      numbers_valid = pages_valid x.pages;
      named = None;
      permitted = λ s t l. true;
      pages_fit = λ s t. leb (pages_of s t + x.pages) (ceiling_at s t);
      written = λ held l. segment_of l x.pages 0;
      answered = λ p held. opened p;
      looked_at = None;
    }
call_row (Size x) =
    record {
      numbers_valid = slot_valid x.slot && pages_valid x.pages;
      named = Some x.slot;
      permitted = λ s t l. writable s t l x.slot;
      pages_fit = λ s t. leb (pages_of s t - pages_at s x.slot + x.pages) (ceiling_at s t);
      written = λ held l. segment_of held.label x.pages held.version;
      answered = λ p held. done;
      looked_at = None;
    }
call_row (Post x) =
    record {
      numbers_valid = slot_valid x.slot;
      named = Some x.slot;
      permitted = λ s t l. writable s t l x.slot;
      pages_fit = λ s t. true;
      written = λ held l. segment_of held.label held.pages x.version;
      answered = λ p held. done;
      looked_at = None;
    }
call_row (Look x) =
    record {
      numbers_valid = slot_valid x.slot;
      named = Some x.slot;
      permitted = λ s t l. visible s l x.slot;
      pages_fit = λ s t. true;
      written = λ held l. held;
      answered = λ p held. shown held;
      looked_at = Some x.slot;
    }
call_row (Close x) =
    record {
      numbers_valid = slot_valid x.slot;
      named = Some x.slot;
      permitted = λ s t l. writable s t l x.slot;
      pages_fit = λ s t. true;
      written = λ held l. zero_segment;
      answered = λ p held. done;
      looked_at = None;
    }

-- ---- the calls

-- 22: tenant not admitted, invalid label, numbers out of bounds
unfoldable pub call_valid : SegmentTable → Call → Bool
call_valid s c = admitted s c.tenant && Label.valid_of c.label && (call_row c.action).numbers_valid

-- 1: label outside the tenant's clearance
unfoldable pub cleared : SegmentTable → Call → Bool
cleared s c = Tuple.contains_of (clearance_at s c.tenant) c.label

-- the slot that a call is about: the one that it names, else the lowest empty one of its tenant's own
abbrev pub slot_for : SegmentTable → TenantId → Option Slot → Option Slot
slot_for s t None = lowest_empty s t
slot_for s t (Some p) = Some p

-- what a grant does: the slot that it is about gets the segment; and what it answers
pub record CallEffect : Type 0 where
  pub slot : Slot
  pub segment : Segment
  pub grant : Grant

abbrev pub effect_on : Slot → Segment → Label → Action → CallEffect
effect_on p held l a = record { slot = p; segment = (call_row a).written held l; grant = (call_row a).answered p held }

-- a check that there is a slot: what follows of the slot, else the refusal n
abbrev pub require_slot : {A : Type 0} → Option Slot → ℕ → (Slot → Answer A) → Answer A
require_slot None n rest = refused n None
require_slot (Some p) n rest = rest p

-- the checks that look into slots, and the grant
unfoldable pub access_of : SegmentTable → Call → Answer CallEffect
access_of s c =
    require ((call_row c.action).permitted s c.tenant c.label) 13
    (require_slot (slot_for s c.tenant (call_row c.action).named) 28
    (λ p. require ((call_row c.action).pages_fit s c.tenant) 12
    (granted (effect_on p (segment_at s p) c.label c.action))))

-- the checks, in document 01's order
unfoldable pub decision_on : SegmentTable → Call → Answer CallEffect
decision_on s c = require (sound s) 22 (require (call_valid s c) 22 (require (cleared s c) 1 (access_of s c)))

abbrev pub answered_by : Answer CallEffect → Answer Grant
answered_by (granted e) = granted e.grant
answered_by (refused n detail) = refused n detail

-- a granted call changes the slot that it is about and nothing else; a refused one changes nothing
abbrev pub table_by : SegmentTable → Answer CallEffect → SegmentTable
table_by s (granted e) = with_segment s e.slot e.segment
table_by s (refused n detail) = s

unfoldable pub step_of : SegmentTable → Call → Step
step_of s c = record { table = table_by s (decision_on s c); answer = answered_by (decision_on s c) }

-- what the code's change does
abbrev pub effect_of : Change → CallEffect
effect_of x = record { slot = x.slot; segment = x.segment; grant = x.reply }

-- the code's decision is what the call does, whole
abbrev pub Decides : SegmentTable → Call → Result Change Errno → Type 0
Decides s c x = answer_by effect_of x ≡ decision_on s c

-- the outcome of a decision: the slot gets the segment, and a refusal leaves the state as it was
abbrev pub applied : SegmentTable → Result Change Errno → CallOutcome
applied s (Ok c) = record { table = with_segment s c.slot c.segment; answer = Ok c.reply }
applied s (Err e) = record { table = s; answer = Err e }

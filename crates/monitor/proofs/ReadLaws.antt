-- What is answered to a read, which is a write too where it takes away what it reads.
use mathlib.Core.Bool.{Bool, true, false, cond, not, ◌&&◌, ◌||◌, or-false}
use mathlib.Core.Logic.{inl, inr}
use mathlib.Core.Path.{◌≡◌, refl, sym, ap, ◌∙◌}
use Prim.Native.Nat.{ℕ}
use native.Mathlib.Omega.{arith}
use Rattle.std.proofs.lemmas.Grind.{common_steps}
use Rattle.common.specs.Answer.{granted, require}
use Rattle.label.specs.Label.{equal_of}
use Rattle.label.specs.Words.{bit}
use Rattle.label.specs.declared.Label.{Label}
use Rattle.common.proofs.AnswerLaws.{passed}
use Rattle.common.proofs.BoolLaws.{both}
use Rattle.label.proofs.LabelLaws.{equal_dominates}
use Rattle.monitor.specs.Monitor.{Access, Modify, Observe, asks, caller_sees, decision_for, destructive_read, intent_read, is_file, kind_valid, met_of, object_valid, row, table, under_label, under_tuple, valid_of}
use Rattle.monitor.specs.Internal.Needs.{answer_by, modifies_of, needed_of, observes_of}
use Rattle.monitor.specs.declared.Object.{Object}
use Rattle.monitor.specs.declared.ObjectClass.{ObjectClass}
use Rattle.monitor.specs.declared.ObjectClass.TheVariants.{Fifo, MessageQueue}
use Rattle.monitor.specs.declared.Privileges.{Privileges}
use Rattle.monitor.specs.declared.Request.{Request}
use Rattle.monitor.proofs.MonitorLaws.{granted_met, same_decision, with_object}
use Rattle.monitor.proofs.NeedsLaws.{decide_needed}

-- ---- what the class of an object has to do with it

abbrev pub with_class : Request → ObjectClass → Request
with_class r c =
    with_object r (record { class = c; kind = r.object.kind; present = r.object.present; label = r.object.label; tuple = r.object.tuple })

-- whether it is a file, and whether a read that is asked for takes away what it reads: nothing else
pub class_no_other_part : (r : Request) (c d : ObjectClass) → is_file c ≡ is_file d
    → (asks r.intents intent_read && destructive_read c) ≡ (asks r.intents intent_read && destructive_read d)
    → decision_for (with_class r c) ≡ decision_for (with_class r d)
unfolding valid_of object_valid kind_valid caller_sees needed_of modifies_of met_of
class_no_other_part r c d f t = same_decision _ _ (rw f) refl (rw t) refl

-- so a message queue is decided about as a fifo is, whatever is asked
pub queue_as_fifo : (r : Request) → decision_for (with_class r MessageQueue) ≡ decision_for (with_class r Fifo)
queue_as_fifo r = class_no_other_part r MessageQueue Fifo refl refl

-- ---- the tests of the two accesses

-- a label governs: dominance to observe, equality to modify
pub met_under_label : (subject : Label) (o : Object) (a : Access) → o.present.label ≡ true → met_of subject o a ≡ under_label a subject o.label
unfolding met_of
met_under_label subject o a e = rw e

-- under a tuple alone both are the same
pub met_under_tuple : (subject : Label) (o : Object) (a : Access) → o.present.label ≡ false → met_of subject o a ≡ under_tuple subject o
unfolding met_of
met_under_tuple subject o a e = rw e

-- whether the subject may observe the object, and whether it may modify it, without a privilege
abbrev pub may_observe : Request → Bool
may_observe r = met_of r.credentials.label r.object Observe

abbrev pub may_modify : Request → Bool
may_modify r = met_of r.credentials.label r.object Modify

-- who may modify may observe
pub modify_observe : (r : Request) → may_modify r ≡ true → may_observe r ≡ true
unfolding met_of
modify_observe r m = grind (arith, common_steps, equal_dominates)

-- ---- a read that takes away what it reads, with whatever else is asked

-- where it is granted under a label without the write override, the labels are equal
pub destructive_read_equal : (r : Request) (n : ℕ) → asks r.intents intent_read ≡ true → destructive_read r.object.class ≡ true
    → r.object.present.label ≡ true → r.credentials.privileges.write ≡ false → decision_for r ≡ granted n
    → equal_of r.credentials.label r.object.label ≡ true
unfolding table
destructive_read_equal r n a d l w e =
    sym (met_under_label r.credentials.label r.object Modify l)
    ∙ granted_met r n (row intent_read Modify destructive_read) (inr (inr (inl refl))) e (both a d) w

-- ---- a read alone

-- a valid request for one, whose caller sees what it asks about
pub record ReadAlone (r : Request) : Type 0 where
  pub valid : valid_of r ≡ true
  pub seen : caller_sees r ≡ true
  pub intents : r.intents ≡ 2

-- what it needs, by whether the subject may observe and modify, and whether the read takes away what it reads
read_needs : Bool → Bool → Bool → Privileges
read_needs observe modify destructive = record { read = not observe; write = destructive && not modify; relabel = false }

needs_of_read : (r : Request) (d : Bool) → r.intents ≡ 2 → destructive_read r.object.class ≡ d → needed_of r ≡ read_needs (may_observe r) (may_modify r) d
unfolding needed_of observes_of modifies_of bit read_needs
needs_of_read r d e f = rw (e, f, or-false)

read_needed : (r : Request) (d : Bool) → ReadAlone r → destructive_read r.object.class ≡ d
    → decision_for r ≡ answer_by (read_needs (may_observe r) (may_modify r) d) r.credentials.privileges
read_needed r d a f =
    decide_needed r
    ∙ passed _ 22 _ a.valid
    ∙ passed _ 13 _ a.seen
    ∙ ap (λ (n : Privileges). answer_by n r.credentials.privileges) (needs_of_read r d a.intents f)

observe_cases : (o read : Bool) →
    require {A = ℕ} (not (not o && not read || false)) 13 (granted (cond (not o || false || false) 1 0))
    ≡ require (o || read) 13 (granted (cond o 0 1))
observe_cases o read = grind (arith, common_steps)

-- where it takes nothing away, the subject may observe, or has the read override, by which the answer is 1
pub read_answer : (r : Request) → ReadAlone r → destructive_read r.object.class ≡ false
    → decision_for r ≡ require (may_observe r || r.credentials.privileges.read) 13 (granted (cond (may_observe r) 0 1))
unfolding answer_by read_needs
read_answer r a f = read_needed r false a f ∙ observe_cases (may_observe r) r.credentials.privileges.read

modify_cases : (o m read write : Bool) → (m ≡ true → o ≡ true) →
    require {A = ℕ} (not (not o && not read || not m && not write)) 13 (granted (cond (not o || not m || false) 1 0))
    ≡ require (m || write && (o || read)) 13 (granted (cond m 0 1))
modify_cases o m read write h = grind (arith, common_steps)

-- where it takes away what it reads, the subject may modify; or it has the write override, and may observe or has the read override too, by which
-- the answer is 1
pub destructive_read_answer : (r : Request) → ReadAlone r → destructive_read r.object.class ≡ true →
    decision_for r
    ≡ require (may_modify r || r.credentials.privileges.write && (may_observe r || r.credentials.privileges.read)) 13
    (granted (cond (may_modify r) 0 1))
unfolding answer_by read_needs
destructive_read_answer r a f =
    let p = r.credentials.privileges in
    read_needed r true a f ∙ modify_cases (may_observe r) (may_modify r) p.read p.write (modify_observe r)

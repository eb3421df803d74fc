-- The rules of document 01's "The monitor", with requests 2026-01 and 2026-03, on examples, by computation.
use mathlib.Core.Bool.{Bool, true, false}
use mathlib.Core.List.{List, [], ◌∷◌, map}
use Rattle.std.specs.Prelude.{None}
use mathlib.Core.Path.{◌≡◌, refl}
use Prim.Native.Nat.{ℕ}
use Rattle.common.specs.Answer.{Answer, granted, refused}
use Rattle.label.specs.Caller.{sees_of}
use Rattle.common.specs.Index.{every}
use Rattle.label.specs.Label.{dominates_of, equal_of, zero_label}
use Rattle.label.specs.Label as labels
use Rattle.label.specs.Region.{region_of}
use Rattle.label.specs.Words.{bit, includes_of, same_of}
use Rattle.label.specs.declared.Label.{Label}
use Rattle.label.specs.declared.caller.Caller.{Caller}
use Rattle.label.specs.Example.{example_of}
use Rattle.range.specs.Range.{contains_of, range_of, valid_of as range_valid}
use Rattle.range.specs.Tuple.{absent, contains_at, empty_tuple, present, tuple_of, valid_at}
use Rattle.range.specs.Tuple as tuples
use Rattle.range.specs.declared.tuple.Tuple.{Tuple}
use Rattle.monitor.specs.Monitor.{some_row, attribute_valid, caller_sees, credentials_valid, decision_for, decide_by, grant_by, intents_by, intents_valid, kind_valid, met_of, object_valid, table, valid_of}
use Rattle.monitor.specs.declared.FileKind.{FileKind}
use Rattle.monitor.specs.declared.FileKind.TheVariants.{Regular, Directory}
use Rattle.monitor.specs.declared.Object.{Object}
use Rattle.monitor.specs.declared.ObjectClass.{ObjectClass}
use Rattle.monitor.specs.declared.ObjectClass.TheVariants.{File, Fifo, MessageQueue, Process, SharedMemory, Semaphore}
use Rattle.monitor.specs.declared.Privileges.{Privileges}
use Rattle.monitor.specs.declared.Request.{Request}

abbrev with : Bool → Bool → Bool → Privileges
with read write relabel = record { read = read; write = write; relabel = relabel }

abbrev object_of : ObjectClass → FileKind → Bool → Label → Bool → Tuple → Object
object_of c k labelled l tupled t =
    record { class = c; kind = k; present = record { label = labelled; tuple = tupled }; label = l; tuple = t }

abbrev labelled : ObjectClass → ℕ → Object
labelled c h = object_of c Regular true (example_of h []) false empty_tuple

-- a tuple that contains the labels (20,{}) to (40,{})
abbrev user : Tuple
user = tuple_of (absent ∷ present (range_of (example_of 20 []) (example_of 40 [])) ∷ absent ∷ [])

abbrev tupled : ObjectClass → Tuple → Object
tupled c t = object_of c Regular false zero_label true t

-- a caller that sees all labels of these examples
abbrev highest : Caller
highest = record { label = example_of 199 []; read_override = false }

-- the subject (h,{}) in the range of the user region
abbrev by : ℕ → Privileges → Object → ℕ → ℕ → Request
by h p o intents attribute =
    record {
      credentials = record { label = example_of h []; range = range_of (example_of 20 []) (example_of 179 []); privileges = p };
      object = o;
      intents = intents;
      attribute = attribute;
      caller = highest;
    }

-- the same asked by (h,{}), with the read override or without
abbrev asked_by : ℕ → Bool → Request → Request
asked_by h o r =
    record {
      credentials = r.credentials;
      object = r.object;
      intents = r.intents;
      attribute = r.attribute;
      caller = record { label = example_of h []; read_override = o };
    }

abbrev alone : Privileges
alone = with false false false

abbrev reads_overridden : Privileges
reads_overridden = with true false false

abbrev write_override : Privileges
write_override = with false true false

abbrev both_overrides : Privileges
both_overrides = with true true false

abbrev relabelling : Privileges
relabelling = with false false true

abbrev refusal : ℕ → Answer ℕ
refusal n = refused n None

-- requests and what is answered to each
abbrev examples : List (Request × Answer ℕ)
examples =
    -- a read (2) needs the subject to dominate, or the read override
    (by 30 alone (labelled File 20) 2 0, granted 0)
    ∷ (by 20 alone (labelled File 30) 2 0, refusal 13)
    ∷ (by 20 write_override (labelled File 30) 2 0, refusal 13)
    ∷ (by 20 reads_overridden (labelled File 30) 2 0, granted 1)
    -- a write (1) needs equality, or the write override
    ∷ (by 30 alone (labelled File 30) 1 0, granted 0)
    ∷ (by 30 alone (labelled File 20) 1 0, refusal 13)
    ∷ (by 30 reads_overridden (labelled File 20) 1 0, refusal 13)
    ∷ (by 30 write_override (labelled File 20) 1 0, granted 1)
    -- a fifo read is a read and a write together
    ∷ (by 30 alone (labelled Fifo 30) 2 0, granted 0)
    ∷ (by 30 alone (labelled Fifo 20) 2 0, refusal 13)
    ∷ (by 30 write_override (labelled Fifo 20) 2 0, granted 1)
    ∷ (by 20 write_override (labelled Fifo 30) 2 0, refusal 13)
    ∷ (by 20 both_overrides (labelled Fifo 30) 2 0, granted 1)
    -- so is a receive from a message queue: the first two are request 2026-03's examples
    ∷ (by 30 alone (labelled MessageQueue 20) 2 0, refusal 13)
    ∷ (by 30 alone (labelled MessageQueue 30) 2 0, granted 0)
    ∷ (by 30 reads_overridden (labelled MessageQueue 20) 2 0, refusal 13)
    ∷ (by 30 write_override (labelled MessageQueue 20) 2 0, granted 1)
    ∷ (by 20 reads_overridden (labelled MessageQueue 30) 2 0, refusal 13)
    ∷ (by 20 write_override (labelled MessageQueue 30) 2 0, refusal 13)
    ∷ (by 20 both_overrides (labelled MessageQueue 30) 2 0, granted 1)
    ∷ (by 30 alone (tupled MessageQueue user) 2 0, granted 0)
    ∷ (by 50 reads_overridden (tupled MessageQueue user) 2 0, refusal 13)
    ∷ (by 50 write_override (tupled MessageQueue user) 2 0, refusal 13)
    ∷ (by 50 both_overrides (tupled MessageQueue user) 2 0, granted 1)
    -- what else is done to a queue, and the reads of other classes, are as those of files
    ∷ (by 30 alone (labelled MessageQueue 20) 1 0, refusal 13)
    ∷ (by 20 write_override (labelled MessageQueue 30) 1 0, granted 1)
    ∷ (by 30 alone (labelled MessageQueue 20) 16 1, granted 0)
    ∷ (by 30 alone (labelled Process 20) 2 0, granted 0)
    ∷ (by 30 alone (labelled SharedMemory 20) 2 0, granted 0)
    ∷ (by 30 alone (labelled Semaphore 20) 2 0, granted 0)
    ∷ (by 20 reads_overridden (labelled Semaphore 30) 2 0, granted 1)
    -- under a tuple alone, which may be empty, each intent needs it to contain the subject's label
    ∷ (by 30 alone (tupled File user) 3 0, granted 0)
    ∷ (by 50 alone (tupled File user) 2 0, refusal 13)
    ∷ (by 30 alone (tupled File empty_tuple) 2 0, refusal 13)
    -- a label governs
    ∷ (by 30 alone (object_of File Regular true (example_of 40 []) true user) 2 0, refusal 13)
    ∷ (by 50 alone (object_of File Regular true (example_of 50 []) true user) 3 0, granted 0)
    -- neither of the two
    ∷ (by 30 alone (object_of File Regular false (example_of 30 []) false user) 2 0, refusal 22)
    -- an invalid one of the two: hierarchy 200, a range in another region
    ∷ (by 30 alone (object_of File Regular true (example_of 200 []) true user) 2 0, refusal 22)
    ∷ (by 30 alone (object_of File Regular true (example_of 30 []) true (tuple_of (present (range_of (example_of 20 []) (example_of 40 [])) ∷ absent ∷ absent ∷ []))) 2 0, refusal 22)
    -- the subject's label is outside its range
    ∷ (by 19 alone (labelled File 0) 2 0, refusal 22)
    -- no intent, an intent that there is not, execute with search
    ∷ (by 30 alone (labelled File 30) 0 0, refusal 22)
    ∷ (by 30 alone (labelled File 30) 64 0, refusal 22)
    ∷ (by 30 alone (labelled File 30) 12 0, refusal 22)
    -- execute (4) is for a regular file, search (8) for a directory, and the file kind counts only for files
    ∷ (by 30 alone (labelled File 20) 4 0, granted 0)
    ∷ (by 30 alone (object_of File Directory true (example_of 20 []) false empty_tuple) 4 0, refusal 22)
    ∷ (by 30 alone (object_of File Directory true (example_of 20 []) false empty_tuple) 8 0, granted 0)
    ∷ (by 30 alone (object_of Fifo Directory true (example_of 30 []) false empty_tuple) 8 0, refusal 22)
    ∷ (by 30 alone (object_of Fifo Directory true (example_of 30 []) false empty_tuple) 2 0, granted 0)
    -- get attribute (16) and set attribute (32), with an attribute type that counts only there
    ∷ (by 30 alone (labelled File 20) 16 2, granted 0)
    ∷ (by 30 alone (labelled File 20) 16 3, refusal 22)
    ∷ (by 30 alone (labelled File 20) 2 3, granted 0)
    ∷ (by 30 alone (labelled File 30) 32 1, refusal 1)
    ∷ (by 30 relabelling (labelled File 30) 32 1, granted 1)
    ∷ (by 30 alone (labelled File 20) 32 1, refusal 13)
    -- the caller has to dominate the subject's label, whatever privileges the subject has, or to have the read override, which makes no 1
    ∷ (asked_by 30 false (by 30 alone (labelled File 20) 2 0), granted 0)
    ∷ (asked_by 20 false (by 30 alone (labelled File 20) 2 0), refusal 13)
    ∷ (asked_by 20 false (by 30 both_overrides (labelled File 20) 2 0), refusal 13)
    ∷ (asked_by 20 true (by 30 alone (labelled File 20) 2 0), granted 0)
    -- and the object's label where there is one, whatever the subject's privileges: so a process that asks for itself can't write up
    ∷ (asked_by 30 false (by 30 write_override (labelled File 40) 1 0), refusal 13)
    ∷ (asked_by 30 true (by 30 write_override (labelled File 40) 1 0), granted 1)
    ∷ (asked_by 40 false (by 30 write_override (labelled File 40) 1 0), granted 1)
    ∷ (asked_by 30 false (by 30 alone (object_of File Regular true (example_of 40 []) true user) 2 0), refusal 13)
    -- neither a label that is not there nor the ends of ranges and tuples play a part
    ∷ (asked_by 30 false (by 30 alone (object_of File Regular false (example_of 40 []) true user) 2 0), granted 0)
    -- the caller's override is none of the subject's
    ∷ (asked_by 30 true (by 30 alone (labelled File 40) 2 0), refusal 13)
    -- 22 comes before the caller's 13, that before 1; an invalid label of the caller is 22, with the override too
    ∷ (asked_by 20 false (by 30 alone (labelled File 20) 0 0), refusal 22)
    ∷ (asked_by 200 true (by 30 alone (labelled File 20) 2 0), refusal 22)
    ∷ (asked_by 20 false (by 30 alone (labelled File 30) 32 1), refusal 13)
    ∷ []

examples_hold : map (λ (x : Request × Answer ℕ). decision_for x.0) examples ≡ map (λ (x : Request × Answer ℕ). x.1) examples
unfolding decide_by intents_by caller_sees sees_of grant_by some_row table met_of valid_of intents_valid credentials_valid object_valid kind_valid attribute_valid bit range_valid contains_of labels.valid_of dominates_of equal_of includes_of same_of every tuples.valid_of tuples.contains_of valid_at contains_at region_of
examples_hold = refl

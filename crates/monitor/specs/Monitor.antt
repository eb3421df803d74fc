-- Document 01, "The monitor", with document 02's requests 2026-01, who may ask it, and 2026-03, receiving a message.
use Rattle.std.specs.Prelude.{Bool, true, false, cond, not, ◌&&◌, ◌||◌, List, [], ◌∷◌, ℕ, eqb, leb, ltb, Result}
use Rattle.common.specs.Answer.{Answer, answer_by, granted, require}
use Rattle.common.specs.declared.errno.Errno.{Errno}
use Rattle.label.specs.Caller.{caller_valid, sees_of}
use Rattle.label.specs.Label
use Rattle.label.specs.Words.{bit}
use Rattle.label.specs.declared.Label.{Label}
use Rattle.range.specs.Range
use Rattle.range.specs.Tuple
use Rattle.monitor.specs.declared.Credentials.{Credentials}
use Rattle.monitor.specs.declared.FileKind.{FileKind}
use Rattle.monitor.specs.declared.FileKind.TheVariants.{Regular, Directory, Other}
use Rattle.monitor.specs.declared.Grant.{Grant}
use Rattle.monitor.specs.declared.Grant.TheVariants.{Plain, Privileged}
use Rattle.monitor.specs.declared.Object.{Object}
use Rattle.monitor.specs.declared.ObjectClass.{ObjectClass}
use Rattle.monitor.specs.declared.ObjectClass.TheVariants.{File, Fifo, Process, MessageQueue, SharedMemory, Semaphore}
use Rattle.monitor.specs.declared.Privileges.{Privileges}
use Rattle.monitor.specs.declared.Request.{Request}

-- ---- the intents

-- the intents, by their bits
abbrev pub intent_write : ℕ
intent_write = 0

abbrev pub intent_read : ℕ
intent_read = 1

abbrev pub intent_execute : ℕ
intent_execute = 2

abbrev pub intent_search : ℕ
intent_search = 3

abbrev pub intent_get : ℕ
intent_get = 4

abbrev pub intent_set : ℕ
intent_set = 5

-- whether an intent is among those that are asked for
abbrev pub asks : ℕ → ℕ → Bool
asks intents intent = bit intents intent

abbrev pub implies : Bool → Bool → Bool
implies p q = not p || q

-- ---- the first step: what is refused with 22

-- 1 to 63, and not execute with search
unfoldable pub intents_valid : ℕ → Bool
intents_valid intents = ltb 0 intents && leb intents 63 && not (asks intents intent_execute && asks intents intent_search)

-- a label inside a valid range
unfoldable pub credentials_valid : Credentials → Bool
credentials_valid c = Range.valid_of c.range && Range.contains_of c.range c.label

-- a label, a tuple or both
abbrev pub label_or_tuple : Object → Bool
label_or_tuple o = o.present.label || o.present.tuple

-- each that is there is valid
abbrev pub label_valid : Object → Bool
label_valid o = implies o.present.label (Label.valid_of o.label)

abbrev pub tuple_valid : Object → Bool
tuple_valid o = implies o.present.tuple (Tuple.valid_of o.tuple)

unfoldable pub object_valid : Object → Bool
object_valid o = label_or_tuple o && label_valid o && tuple_valid o

abbrev pub is_file : ObjectClass → Bool
is_file File = true
is_file Fifo = false
is_file Process = false
is_file MessageQueue = false
is_file SharedMemory = false
is_file Semaphore = false

abbrev pub is_regular : FileKind → Bool
is_regular Regular = true
is_regular Directory = false
is_regular Other = false

abbrev pub is_directory : FileKind → Bool
is_directory Regular = false
is_directory Directory = true
is_directory Other = false

-- execute is for a regular file, search for a directory
unfoldable pub kind_valid : ℕ → ObjectClass → FileKind → Bool
kind_valid intents c k =
    implies (asks intents intent_execute) (is_file c && is_regular k) && implies (asks intents intent_search) (is_file c && is_directory k)

-- with an attribute intent, the type is 1, a label, or 2, a tuple
unfoldable pub attribute_valid : ℕ → ℕ → Bool
attribute_valid intents type = implies (asks intents intent_get || asks intents intent_set) (eqb type 1 || eqb type 2)

unfoldable pub valid_of : Request → Bool
valid_of r =
    intents_valid r.intents
    && credentials_valid r.credentials
    && object_valid r.object
    && kind_valid r.intents r.object.class r.object.kind
    && attribute_valid r.intents r.attribute
    && caller_valid r.caller

-- ---- between the first and the second step: who asks

-- whether the caller may see the credentials' label, and the object's where there is one
unfoldable pub caller_sees : Request → Bool
caller_sees r =
    sees_of r.caller r.credentials.label
    && implies r.object.present.label (sees_of r.caller r.object.label)

-- ---- the second step: the table of intents

-- an intent observes the object or modifies it
pub data Access : Type 0 where
  Observe : Access
  Modify : Access

-- what either needs under a label
abbrev pub under_label : Access → Label → Label → Bool
under_label Observe subject object = Label.dominates_of subject object
under_label Modify subject object = Label.equal_of subject object

-- what either needs under a tuple: that it is there and contains the subject's label
abbrev pub under_tuple : Label → Object → Bool
under_tuple subject o = o.present.tuple && Tuple.contains_of o.tuple subject

-- the override by which it passes where its test is not met
abbrev pub override_of : Access → Privileges → Bool
override_of Observe p = p.read
override_of Modify p = p.write

-- an intent, what it does, and to objects of which class
pub record Row : Type 0 where
  pub intent : ℕ
  pub access : Access
  pub on : ObjectClass → Bool

abbrev pub row : ℕ → Access → (ObjectClass → Bool) → Row
row intent access on = record { intent = intent; access = access; on = on }

abbrev pub any_class : ObjectClass → Bool
any_class c = true

-- where a read takes away what it reads: it is a read and a write together. The fifo is document 01's, the message queue request 2026-03's
abbrev pub destructive_read : ObjectClass → Bool
destructive_read File = false
destructive_read Fifo = true
destructive_read Process = false
destructive_read MessageQueue = true
destructive_read SharedMemory = false
destructive_read Semaphore = false

unfoldable pub table : List Row
table =
    row intent_write Modify any_class
    ∷ row intent_read Observe any_class
    ∷ row intent_read Modify destructive_read
    ∷ row intent_execute Observe any_class
    ∷ row intent_search Observe any_class
    ∷ row intent_get Observe any_class
    ∷ row intent_set Modify any_class
    ∷ []

-- whether a row of the table is asked for
abbrev pub applies : Request → Row → Bool
applies r x = asks r.intents x.intent && x.on r.object.class

-- whether the test of an access is met. A label governs where both are there
unfoldable pub met_of : Label → Object → Access → Bool
met_of subject o a = cond o.present.label (under_label a subject o.label) (under_tuple subject o)

-- whether a row is asked for and its test is not met
abbrev pub unmet : Request → Row → Bool
unmet r x = applies r x && not (met_of r.credentials.label r.object x.access)

-- whether a row is asked for and neither is its test met nor is there the override
abbrev pub denied : Request → Row → Bool
denied r x =
    applies r x
    && not (met_of r.credentials.label r.object x.access || override_of x.access r.credentials.privileges)

unfoldable pub some_row : (Row → Bool) → List Row → Bool
some_row f [] = false
some_row f (x ∷ xs) = f x || some_row f xs

-- ---- the steps, and the answer

-- what a grant answers: 1 if any privilege was needed, and set attribute always needs one, else 0
unfoldable pub grant_by : List Row → Request → ℕ
grant_by rows r = cond (some_row (unmet r) rows || asks r.intents intent_set) 1 0

-- what is answered once the caller may ask, whoever that is
unfoldable pub intents_by : List Row → Request → Answer ℕ
intents_by rows r =
    require (not (some_row (denied r) rows)) 13
    (require (not (asks r.intents intent_set && not r.credentials.privileges.relabel)) 1 (granted (grant_by rows r)))

unfoldable pub decide_by : List Row → Request → Answer ℕ
decide_by rows r = require (valid_of r) 22 (require (caller_sees r) 13 (intents_by rows r))

-- the monitor's decision
abbrev pub decision_for : Request → Answer ℕ
decision_for r = decide_by table r

-- a grant's number: 0 where no privilege was needed, else 1
abbrev pub grant_number : Grant → ℕ
grant_number Plain = 0
grant_number Privileged = 1

-- what the code's decision says
abbrev pub decision_of : Result Grant Errno → Answer ℕ
decision_of = answer_by grant_number

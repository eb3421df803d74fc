-- Document 01, "Examples": those marked P, a mark counting to the end of its bullet, in its order, as one list, and the claim that all of them
-- hold.
use Rattle.std.specs.Prelude.{Bool, true, false, List, [], ◌∷◌, ◌≡◌, ℕ, None, Some}
use Rattle.common.specs.Answer.{Answer, granted, refused, require}
use Rattle.common.specs.Buffer.{length_of}
use Rattle.label.specs.Example.{example_of}
use Rattle.label.specs.Label.{dominates_of, lower_bound_of, upper_bound_of, valid_of}
use Rattle.label.specs.declared.Label.{Label}
use Rattle.label.specs.declared.caller.Caller.{Caller}
use Rattle.range.specs.Range
use Rattle.range.specs.Range.{meet_answer_of, range_of}
use Rattle.range.specs.Tuple.{absent, empty_tuple, present, split_of, tuple_of}
use Rattle.range.specs.declared.Range.{Range}
use Rattle.range.specs.declared.tuple.Tuple.{Tuple}
use Rattle.octets.specs.Bytes.{ascii}
use Rattle.hexline.specs.Line.{read_tuple_line, tuple_line_of}
use Rattle.text.specs.Subject.{with_table}
use Rattle.text.specs.Write.{Shown, write_label_of, write_range_of}
use Rattle.text.specs.declared.Form.TheVariants.{Definition}
use Rattle.text.specs.declared.Style.{Style}
use Rattle.text.specs.declared.Variant.TheVariants.{Names}
use Rattle.segments.specs.Calls.{open_call, size_call, step_of}
use Rattle.segment_table.specs.Operator.{admit_of, make_of, set_ceiling_of}
use Rattle.segment_table.specs.Replies.{Step}
use Rattle.segment_table.specs.Segments.{empty_table, slot, tenant_id}
use Rattle.segments.specs.declared.Call.{Call}
use Rattle.segment_table.specs.declared.Reply.{Reply as Grant}
use Rattle.segment_table.specs.declared.Reply.TheVariants.{Done as done, Opened as opened}
use Rattle.segment_table.specs.declared.SegmentTable.{SegmentTable}

-- ---- ranges

-- what a split answers
abbrev pub split_answer_of : Range → Answer Tuple
split_answer_of x = require (Range.valid_of x) 22 (granted (split_of x))

-- ---- names and text

-- the whole table: "low" is hierarchy 20; "east", short "e", is category 7
abbrev pub names : List ℕ
names = ascii "040114036c6f770092\n04020704656173740165dc\n"

-- in the definition form and by names, for a subject that has a label and no read override
abbrev pub by_names : Style
by_names = record { form = Definition; variant = Names }

abbrev pub without_override : Label → Caller
without_override subject = record { label = subject; read_override = false }

-- what is written of a label, and of a range
abbrev pub label_written_for : Label → Label → Answer (List ℕ)
label_written_for subject l = with_table false names (λ es. write_label_of es (without_override subject) by_names l)

abbrev pub range_written_for : Label → Range → Answer Shown
range_written_for subject x = with_table false names (λ es. write_range_of es (without_override subject) by_names x)

-- ---- the board

-- "All labels (20,{}), in every clearance."
abbrev pub l : Label
l = example_of 20 []

abbrev pub clearance : Tuple
clearance = tuple_of (absent ∷ present (range_of l l) ∷ absent ∷ [])

-- an operator's call, or a tenant's
pub data Request : Type 0 where
  make : ℕ → Request
  admit : ℕ → ℕ → Request
  ceiling : ℕ → ℕ → Request
  call : Call → Request

abbrev pub open_by : ℕ → ℕ → Request
open_by t pages = call (open_call (tenant_id t) l pages)

abbrev pub size_by : ℕ → ℕ → ℕ → Request
size_by t p pages = call (size_call (tenant_id t) l (slot p) pages)

abbrev pub stepped : SegmentTable → Request → Step
stepped s (make pool) = make_of pool
stepped s (admit t n) = admit_of s (tenant_id t) n clearance
stepped s (ceiling t n) = set_ceiling_of s (tenant_id t) n
stepped s (call c) = step_of s c

-- a request with its answer
pub record AnsweredRequest : Type 0 where
  pub request : Request
  pub answer : Answer Grant

infix 20 ◌gets◌
abbrev pub ◌gets◌ : Request → Answer Grant → AnsweredRequest
request gets answer = record { request = request; answer = answer }

-- the same requests with the answers that the definitions give, the first on the state s
abbrev pub played : SegmentTable → List AnsweredRequest → List AnsweredRequest
played s [] = []
played s (e ∷ es) = (e.request gets (stepped s e.request).answer) ∷ played (stepped s e.request).table es

-- the example of the board, request by request
abbrev pub board : List AnsweredRequest
board =
    (make 100 gets granted done)
    ∷ (admit 0 60 gets granted done)
    ∷ (admit 1 40 gets granted done)
    ∷ (admit 2 1 gets refused 12 None)
    ∷ (open_by 0 60 gets granted (opened (slot 0)))
    ∷ (open_by 0 1 gets refused 12 None)
    ∷ (open_by 1 40 gets granted (opened (slot 8)))
    ∷ (size_by 0 0 59 gets granted done)
    ∷ (open_by 0 1 gets granted (opened (slot 1)))
    ∷ []

-- ---- the examples

-- what an example is about
pub data Value : Type 0 where
  test : Bool → Value
  label : Label → Value
  range : Answer Range → Value
  tuple : Answer Tuple → Value
  text : Answer (List ℕ) → Value
  shown : Answer Shown → Value
  count : Answer ℕ → Value
  grants : List AnsweredRequest → Value

-- what the definitions say, and what document 01 says that it is
pub record Example : Type 0 where
  pub defined : Value
  pub expected : Value

infix 20 ◌is◌
abbrev pub ◌is◌ : Value → Value → Example
defined is expected = record { defined = defined; expected = expected }

abbrev pub examples : List Example
examples =
    -- (30,{1,2}) dominates (20,{2})
    (test (dominates_of (example_of 30 (1 ∷ 2 ∷ [])) (example_of 20 (2 ∷ []))) is test true)
    -- (20,{2}) and (30,{}) don't dominate each other
    ∷ (test (dominates_of (example_of 20 (2 ∷ [])) (example_of 30 [])) is test false)
    ∷ (test (dominates_of (example_of 30 []) (example_of 20 (2 ∷ []))) is test false)
    -- bounds of (20,{1}) and (30,{2}): (30,{1,2}) and (20,{})
    ∷ (label (upper_bound_of (example_of 20 (1 ∷ [])) (example_of 30 (2 ∷ []))) is label (example_of 30 (1 ∷ 2 ∷ [])))
    ∷ (label (lower_bound_of (example_of 20 (1 ∷ [])) (example_of 30 (2 ∷ []))) is label (example_of 20 []))
    -- [(20,{}),(40,{1,2})] meets [(30,{2}),(50,{2,3})] in [(30,{2}),(40,{2})]
    ∷ (range (meet_answer_of (range_of (example_of 20 []) (example_of 40 (1 ∷ 2 ∷ []))) (range_of (example_of 30 (2 ∷ [])) (example_of 50 (2 ∷ 3 ∷ []))))
    is range (granted (range_of (example_of 30 (2 ∷ [])) (example_of 40 (2 ∷ [])))))
    -- [(20,{1}),(40,{1})] and [(20,{}),(40,{2})]: 33
    ∷ (range (meet_answer_of (range_of (example_of 20 (1 ∷ [])) (example_of 40 (1 ∷ []))) (range_of (example_of 20 []) (example_of 40 (2 ∷ []))))
    is range (refused 33 None))
    -- [(10,{}),(30,{4})] splits into [(10,{}),(19,{4})] and [(20,{}),(30,{4})]
    ∷ (tuple (split_answer_of (range_of (example_of 10 []) (example_of 30 (4 ∷ []))))
    is tuple (granted (tuple_of (present (range_of (example_of 10 []) (example_of 19 (4 ∷ []))) ∷ present (range_of (example_of 20 []) (example_of 30 (4 ∷ []))) ∷ absent ∷ []))))
    -- empty tuple: `0300fd`, written and read
    ∷ (text (tuple_line_of empty_tuple) is text (granted (ascii "0300fd\n")))
    ∷ (tuple (read_tuple_line (ascii "0300fd\n")) is tuple (granted empty_tuple))
    -- hierarchy 199 valid, 200 not
    ∷ (test (valid_of (example_of 199 [])) is test true)
    ∷ (test (valid_of (example_of 200 [])) is test false)
    -- (20,{7}) for subject (20,{7}) is `low:east`; a buffer of 7 answers 7 with 8
    ∷ (text (label_written_for (example_of 20 (7 ∷ [])) (example_of 20 (7 ∷ []))) is text (granted (ascii "low:east")))
    ∷ (count (length_of (label_written_for (example_of 20 (7 ∷ [])) (example_of 20 (7 ∷ []))) 7) is count (refused 7 (Some 8)))
    -- range [(20,{}),(20,{7})] for subject (20,{}): status 1, `-L low -H ?`
    ∷ (shown (range_written_for (example_of 20 []) (range_of (example_of 20 []) (example_of 20 (7 ∷ [])))) is shown (granted (record { status = 1; text = ascii "-L low -H ?" })))
    -- Pool 100, ceilings 60 and 40: a third tenant with 1 gets 12. Tenant 0 opens 60 at place 0, then 1 page: 12. Tenant 1 still opens 40, at
    -- place 8. Tenant 0 sizes place 0 to 59 and opens 1 at place 1
    ∷ (grants (played (empty_table 0) board) is grants board)
    ∷ []

-- each of a list of examples is what document 01 says
unfoldable pub Hold : List Example → Type 0
Hold [] = Unit {0}
Hold (e ∷ es) = (e.defined ≡ e.expected) × Hold es

-- the claim: all of them hold
abbrev pub ExamplesHold : Type 0
ExamplesHold = Hold examples

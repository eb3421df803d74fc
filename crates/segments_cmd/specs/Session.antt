-- What a request does to the state, and what a line does to a session. A bad line comes as no bytes.
use Rattle.std.specs.Prelude.{Bool, false, cond, List, ℕ, Option, Some, None, is_some}
use Rattle.console.specs.Command.{skipped_of}
use Rattle.hexline.specs.Line.{read_label_line, read_tuple_line}
use Rattle.common.specs.Answer.{Answer, granted, refused}
use Rattle.segments.specs.Calls.{call_of, step_of}
use Rattle.segment_table.specs.Operator.{admit_of, make_of, set_ceiling_of}
use Rattle.segment_table.specs.Replies.{Step, leaving}
use Rattle.segments.specs.declared.Action.{Action}
use Rattle.segment_table.specs.declared.SegmentTable.{SegmentTable}
use Rattle.segment_table.specs.declared.TenantId.{TenantId}
use Rattle.segments_cmd.specs.Request.{request_of_line, takes_operand}
use Rattle.segments_cmd.specs.declared.request.Request.{Request}
use Rattle.segments_cmd.specs.declared.request.Request.TheVariants.{Make, Admit, SetCeiling, Call, Show}
use Rattle.segments_cmd.specs.declared.session.Session.{Session}

-- ---- requests

-- no call is made
abbrev pub invalid_step : SegmentTable → Step
invalid_step s = leaving s s (refused 22 None)

-- a call on what the operand line holds; where that is refused no call is made
abbrev pub on_operand : {A : Type 0} → SegmentTable → Answer A → (A → Step) → Step
on_operand s (granted x) call = call x
on_operand s (refused n detail) call = invalid_step s

-- a granted make leaves its new state, a refused one the old one
abbrev pub made_in : SegmentTable → Step → Step
made_in s x = leaving s x.table x.answer

abbrev pub admit_on : SegmentTable → TenantId → ℕ → List ℕ → Step
admit_on s t ceiling line = on_operand s (read_tuple_line line) (admit_of s t ceiling)

abbrev pub call_on : SegmentTable → TenantId → Action → List ℕ → Step
call_on s t a line = on_operand s (read_label_line line) (λ l. step_of s (call_of t l a))

-- the state after a request with its operand line; where nothing is asked for that there is, the state stays
abbrev pub table_after : SegmentTable → Option Request → List ℕ → SegmentTable
table_after s None line = s
table_after s (Some (Make pool)) line = (made_in s (make_of pool)).table
table_after s (Some (Admit t ceiling)) line = (admit_on s t ceiling line).table
table_after s (Some (SetCeiling t ceiling)) line = (set_ceiling_of s t ceiling).table
table_after s (Some (Call t a)) line = (call_on s t a line).table
table_after s (Some Show) line = s

-- ---- sessions

abbrev pub session_of : SegmentTable → Option Request → Session
session_of s r = record { table = s; due = r }

-- no operand line is due
abbrev pub between : SegmentTable → Session
between s = session_of s None

-- the request that waits for its operand line, where it has one
abbrev pub waiting : Option Request → Bool
waiting None = false
waiting (Some r) = takes_operand r

abbrev pub after_request : SegmentTable → Option Request → List ℕ → Session
after_request s r line = cond (waiting r) (session_of s r) (between (table_after s r line))

-- a line where a command line is due
abbrev pub after_command : SegmentTable → List ℕ → Session
after_command s line = cond (skipped_of line) (between s) (after_request s (request_of_line line) line)

-- any line: the operand line of the request that waits for one, else a command line
abbrev pub after_line : Session → List ℕ → Session
after_line x line = cond (is_some x.due) (between (table_after x.table x.due line)) (after_command x.table line)

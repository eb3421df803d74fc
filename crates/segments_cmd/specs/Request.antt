-- A command line as a request.
use Rattle.std.specs.Prelude.{Bool, true, false, cond, List, ℕ, eqb, get_or, Option, Some, None, option_and_then}
use Rattle.octets.specs.Bytes.{ascii, same_bytes}
use Rattle.console.specs.Command.{command_of, command_word}
use Rattle.console.specs.declared.command.Command.{Command}
use Rattle.segment_table.specs.Segments.{slot, tenant_id}
use Rattle.segments.specs.declared.Action.TheVariants.{Open, Size, Post, Look, Close}
use Rattle.segment_table.specs.declared.Slot.{Slot}
use Rattle.segment_table.specs.declared.TenantId.{TenantId}
use Rattle.segments_cmd.specs.declared.request.Request.{Request}
use Rattle.segments_cmd.specs.declared.request.Request.TheVariants.{Make, Admit, SetCeiling, Call, Show}

-- ---- the requests by their words, with 0, 1, 2 and 3 numbers

abbrev pub of_none : List ℕ → Option Request
of_none word = cond (same_bytes word (ascii "show")) (Some Show) None

abbrev pub of_one : List ℕ → ℕ → Option Request
of_one word n = cond (same_bytes word (ascii "make")) (Some (Make n)) None

abbrev pub of_two : List ℕ → TenantId → ℕ → Option Request
of_two word t n =
    cond (same_bytes word (ascii "admit")) (Some (Admit t n))
    (cond (same_bytes word (ascii "ceiling")) (Some (SetCeiling t n))
    (cond (same_bytes word (ascii "open")) (Some (Call t (Open (record { pages = n }))))
    (cond (same_bytes word (ascii "look")) (Some (Call t (Look (record { slot = slot n }))))
    (cond (same_bytes word (ascii "close")) (Some (Call t (Close (record { slot = slot n }))))
    None))))

abbrev pub of_three : List ℕ → TenantId → Slot → ℕ → Option Request
of_three word t p n =
    cond (same_bytes word (ascii "size")) (Some (Call t (Size (record { slot = p; pages = n }))))
    (cond (same_bytes word (ascii "post")) (Some (Call t (Post (record { slot = p; version = n }))))
    None)

-- ---- command lines

abbrev pub by_count : List ℕ → ℕ → List ℕ → Option Request
by_count word count ns =
    cond (eqb count 0) (of_none word)
    (cond (eqb count 1) (of_one word (get_or ns 0 0))
    (cond (eqb count 2) (of_two word (tenant_id (get_or ns 0 0)) (get_or ns 1 0))
    (cond (eqb count 3) (of_three word (tenant_id (get_or ns 0 0)) (slot (get_or ns 1 0)) (get_or ns 2 0))
    None)))

abbrev pub of_command : List ℕ → Command → Option Request
of_command word c = by_count word c.count c.numbers

-- what a command line asks for, if anything
unfoldable pub request_of_line : List ℕ → Option Request
request_of_line line = option_and_then (of_command (command_word line)) (command_of line)

-- whether a request has an operand line
abbrev pub takes_operand : Request → Bool
takes_operand (Make n) = false
takes_operand (Admit t n) = true
takes_operand (SetCeiling t n) = false
takes_operand (Call t a) = true
takes_operand Show = false

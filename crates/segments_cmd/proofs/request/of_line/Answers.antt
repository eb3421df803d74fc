use Rattle.std.proofs.Common.{sym, ◌≡◌, ◌∙◌, take, List, ℕ, arith}
use Rattle.std.specs.Prelude.{Some}
use borrow.Author.Tests.{ne_eqb}
use Rattle.console.specs.Command.{command_of}
use Rattle.console.specs.declared.command.Command.{Command}
use Rattle.console.proofs.CommandLaws.{command_word_lem}
use Rattle.segments_cmd.specs.Request.{by_count, request_of_line}
use Rattle.segments_cmd.proofs.request.of_line.Goals as goal

-- a line that is a command asks for the request of its word, with as many numbers as it has
asked : (line word : List ℕ) (c : Command) → command_of line ≡ Some c → word ≡ take c.word line → request_of_line line ≡ by_count word c.count c.numbers
unfolding request_of_line
asked line word c e w = rw (e, w ∙ command_word_lem line c e)

pub returns-in_err-c : goal.returns-in_err-c
unfolding request_of_line
returns-in_err-c c = rw (← c.parse.ensures, c.in_err-c.was) c.from_residual.ensures

pub returns-in-0 : goal.returns-in-0
returns-in-0 c =
    rw (asked c.args.line.now c.front-word.result.now c.in_ok-c.c (sym c.parse.ensures ∙ c.in_ok-c.was) c.front-word.ensures, c.in-0.is) c.of_none.ensures

pub returns-in-1 : goal.returns-in-1
returns-in-1 c =
    rw (asked c.args.line.now c.front-word.result.now c.in_ok-c.c (sym c.parse.ensures ∙ c.in_ok-c.was) c.front-word.ensures, c.in-1.is) c.of_one.ensures

pub returns-in-2 : goal.returns-in-2
returns-in-2 c =
    rw (asked c.args.line.now c.front-word.result.now c.in_ok-c.c (sym c.parse.ensures ∙ c.in_ok-c.was) c.front-word.ensures, c.in-2.is) c.of_two.ensures

pub returns-in-3 : goal.returns-in-3
returns-in-3 c =
    rw (asked c.args.line.now c.front-word.result.now c.in_ok-c.c (sym c.parse.ensures ∙ c.in_ok-c.was) c.front-word.ensures, c.in-3.is) c.of_three.ensures

pub returns-in_default : goal.returns-in_default
returns-in_default c =
    let n = c.in_ok-c.c.count in
    let zero : n ≡ 0 → ⊥ = λ e. omega arith in
    let one : n ≡ 1 → ⊥ = λ e. omega arith in
    let two : n ≡ 2 → ⊥ = λ e. omega arith in
    let three : n ≡ 3 → ⊥ = λ e. omega arith in
    rw (
      asked c.args.line.now c.front-word.result.now c.in_ok-c.c (sym c.parse.ensures ∙ c.in_ok-c.was) c.front-word.ensures,
      ne_eqb n 0 zero,
      ne_eqb n 1 one,
      ne_eqb n 2 two,
      ne_eqb n 3 three,
    )

use Rattle.std.proofs.Common.{sym, ◌∙◌, arith}
use borrow.Author.Tests.{eqb-false}
use Rattle.console.proofs.NumberLaws.{number_bad, number_end, number_none, number_over, number_pass, number_start}
use Rattle.console.proofs.command.read_number.Goals as goal

pub returns-then-is_empty : goal.returns-then-is_empty
returns-then-is_empty c = number_none c.args.text.now c.if-is_empty.ensures

pub loop-b-init : goal.loop-b-init
loop-b-init c = (omega arith, number_start c.args.text.now (eqb-false _ _ (sym c.if-is_empty.ensures)))

pub returns-then-not-is_ascii_digit : goal.returns-then-not-is_ascii_digit
returns-then-not-is_ascii_digit c =
    let l = c.loop-b in number_bad c.args.text.now l.value l.b-index l.invariant.1 c.loop-b-test.true c.if-not-is_ascii_digit.ensures.value

pub returns-in_err-checked_mul : goal.returns-in_err-checked_mul
returns-in_err-checked_mul c =
    let l = c.loop-b in
    let e = c.in_err-checked_mul.ensures in
    c.from_residual.ensures ∙ number_over c.args.text.now l.value l.b-index l.invariant.1 c.loop-b-test.true c.if-not-is_ascii_digit.ensures.value (omega arith)

pub returns-in_err-value : goal.returns-in_err-value
returns-in_err-value c =
    let l = c.loop-b in
    let m = c.in_ok-checked_mul.ensures in
    let e = c.in_err-value.ensures in
    c.from_residual-in_err-value.ensures
    ∙ number_over c.args.text.now l.value l.b-index l.invariant.1 c.loop-b-test.true c.if-not-is_ascii_digit.ensures.value (omega arith)

pub loop-b-preserved : goal.loop-b-preserved
loop-b-preserved c =
    let l = c.loop-b in
    let m = c.in_ok-checked_mul.ensures in
    let e = c.in_ok-value.ensures in
    (omega arith, rw (e.1, m.1) (number_pass c.args.text.now l.value l.b-index l.invariant.1 c.loop-b-test.true c.if-not-is_ascii_digit.ensures.value))

pub returns : goal.returns
returns c = let l = c.loop-b in number_end c.args.text.now l.value l.b-index l.invariant.1 (omega arith) (omega arith)

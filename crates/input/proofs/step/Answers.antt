use Rattle.std.proofs.Common.{ap, ⊎_elim}
use Rattle.input.specs.Input.{before_step, waits_of}
use Rattle.input.specs.declared.Input.{Input}
use Rattle.input.proofs.InputLaws.{stepped_not, stepped_piece, stepped_read}
use Rattle.input.proofs.step.Goals as goal

pub returns-then-at-filled : goal.returns-then-at-filled
returns-then-at-filled g c = rw c.in-Open.is (stepped_piece c.in-Open.partial c.in-Open.at c.in-Open.filled c.if-at-filled.true c.next_piece.ensures)

pub returns-else-at-filled : goal.returns-else-at-filled
returns-else-at-filled g c =
    rw c.in-Open.is (stepped_read c.in-Open.partial c.in-Open.at c.in-Open.filled c.if-at-filled.false c.refill.auto.chunk c.refill.ensures)

pub returns-in-Ended : goal.returns-in-Ended
returns-in-Ended g c =
    let still = λ (i : Input). waits_of (before_step i) in
    stepped_not c.args.i c.args.chunk.now c.args.line.now (⊎_elim (λ e. ap still e) (λ e. ap still e) c.in-Ended.is)

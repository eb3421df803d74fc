use Rattle.std.proofs.Common.{add-one, sym, ◌∙◌, refl}
use Rattle.input.specs.Input.{Steps}
use Rattle.input.proofs.InputLaws.{step_more}
use Rattle.input.proofs.steps.Goals as goal

pub loop-init : goal.loop-init
unfolding Steps
loop-init g c = record { chunk_length = refl; line_length = refl; whole = λ n e. cc; taken = (refl, refl, refl) }

pub loop-preserved : goal.loop-preserved
loop-preserved g c =
    let l = c.loop in
    let i = l.invariant in
    let s = c.step-t.ensures in
    record {
      chunk_length = s.same_chunk_length ∙ i.chunk_length;
      line_length = s.same_line_length ∙ i.line_length;
      whole = s.whole;
      taken = rw add-one (step_more l.counter c.args.i c.args.chunk.now c.args.line.now l.t l.chunk l.line i.taken (sym c.if-not-waits.ensures) s);
    }

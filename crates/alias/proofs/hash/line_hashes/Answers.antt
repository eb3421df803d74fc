-- A line that is not accepted has no hashes; of one that is, the parts of its body are its entry's name and abbreviation, whose hashes they are.
use mathlib.Core.Path.{sym, ap, ◌∙◌}
use Rattle.frame.proofs.FrameLoops.{decoded_front}
use Rattle.hexline.specs.Accept.{accepted_body}
use Rattle.hexline.specs.Line.{standing_in}
use Rattle.hexline.proofs.AcceptLaws.{accepted_by, accepted_whole}
use Rattle.hexline.specs.Line.{entry_in}
use Rattle.label_codec.specs.Body.{line_words}
use Rattle.alias.proofs.HashLaws.{hashes_if}
use Rattle.alias.proofs.hash.line_hashes.Goals as goal

pub returns-clause-accepted : goal.returns-clause-accepted
returns-clause-accepted c =
    let line = c.args.line.now in
    let b = decoded_front line _ c.decode-n.ensures.value c.decode-n.ensures.out_after c.front.ensures in
    c.body_hashes.ensures.accepted ∙ ap accepted_body b ∙ sym (accepted_by line)

pub returns-clause-hashes_of : goal.returns-clause-hashes_of
unfolding standing_in
returns-clause-hashes_of c =
    let line = c.args.line.now in
    let b = decoded_front line _ c.decode-n.ensures.value c.decode-n.ensures.out_after c.front.ensures in
    let a = c.body_hashes.ensures.accepted ∙ ap accepted_body b ∙ sym (accepted_by line) in
    hashes_if c.body_hashes.result (λ e. ap (entry_in line_words) (b ∙ accepted_whole line (sym a ∙ e))) c.body_hashes.ensures.hashes_of

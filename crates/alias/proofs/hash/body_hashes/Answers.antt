use mathlib.Core.Path.{sym, ◌∙◌}
use Rattle.common.proofs.BoolLaws.{first_true}
use Rattle.label_codec.specs.Body.{line_words}
use Rattle.hexline.specs.Line.{entry_form}
use Rattle.hexline.proofs.AcceptLaws.{texts_at}
use Rattle.alias.proofs.hash.body_hashes.Goals as goal

pub returns-clause-hashes_of : goal.returns-clause-hashes_of
returns-clause-hashes_of c =
    let bs = c.args.body.now in
    let x = texts_at 4 line_words bs c.layout_in-p.ensures.value (first_true (entry_form 4 line_words bs) _ (sym c.accepts.ensures ∙ c.if-not-accepts.false)) in
    c.text_hashes.ensures _ (c.bytes.ensures ∙ x.0) (c.bytes-2.ensures ∙ x.1)

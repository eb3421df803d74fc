use mathlib.Core.Path.{sym, ◌∙◌}
use Rattle.label_codec.proofs.BodyLaws.{label_length}
use Rattle.label_codec.proofs.labels.LabelCoded.size.Goals as goal

pub returns : goal.returns
returns c = c.label_size.ensures ∙ sym (label_length c.args.width.words c.args.self.now)

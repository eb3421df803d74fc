use mathlib.Core.Path.{sym, ◌∙◌}
use Rattle.label_codec.proofs.BodyLaws.{range_length}
use Rattle.label_codec.proofs.labels.RangeCoded.size.Goals as goal

pub returns : goal.returns
returns c = c.range_size.ensures ∙ sym (range_length c.args.width.words c.args.self.now)

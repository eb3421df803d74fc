use Rattle.label_codec.proofs.BodyLoops.{word_read}
use Rattle.label_codec.proofs.labels.word_at.Goals as goal

pub returns : goal.returns
returns c = word_read _ _ c.copy_from_slice.ensures.after c.from_le_bytes.ensures

use Rattle.label.specs.Words.{bit}
use Rattle.alias.proofs.filter.Filter.contains.Goals as goal

pub returns : goal.returns
unfolding bit
returns c = rw c.word_of.ensures

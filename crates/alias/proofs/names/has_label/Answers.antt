use borrow.Author.Tests.{ne_eqb}
use Rattle.label.specs.Label.{equal_of}
use Rattle.alias.proofs.names.has_label.Goals as goal

pub returns-else-hierarchy-l : goal.returns-else-hierarchy-l
unfolding equal_of
returns-else-hierarchy-l c = rw (← c.hierarchy.ensures, ne_eqb _ _ c.if-hierarchy-l.false)

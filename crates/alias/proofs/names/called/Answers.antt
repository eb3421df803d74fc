use borrow.Author.Rules.{rules}
use Rattle.alias.specs.Lookup.{called_of}
use Rattle.alias.proofs.names.called.Goals as goal

pub some_name-requires : goal.some_name-requires
some_name-requires c κs within = search rules fits 3000

pub returns : goal.returns
unfolding called_of
returns c = c.some_name.ensures

use borrow.Author.Rules.{rules}
use Rattle.alias.proofs.HashLaws.{keep_one}
use Rattle.alias.proofs.hash.Hashes.keep.Goals as goal

pub returns : goal.returns
returns c es h e = keep_one (search rules) (search rules) c.requires h e

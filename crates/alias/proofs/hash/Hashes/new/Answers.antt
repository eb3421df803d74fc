use Rattle.alias.proofs.HashLaws.{keep_none}
use Rattle.alias.proofs.hash.Hashes.new.Goals as goal

pub returns : goal.returns
returns c es = keep_none es _

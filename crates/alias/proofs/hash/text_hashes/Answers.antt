use mathlib.Core.Path.{refl}
use Rattle.alias.proofs.HashLaws.{hashes_of}
use Rattle.alias.proofs.hash.text_hashes.Goals as goal

pub returns : goal.returns
returns c e p q = hashes_of e p q c.hash_of-hash.ensures c.other_hash-other.ensures refl

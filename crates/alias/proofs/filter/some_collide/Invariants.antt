use Rattle.alias.proofs.HashLaws.{Filtering}
use Rattle.alias.proofs.filter.some_collide.Given as goal

abbrev pub invariant-loop-k : goal.invariant-loop-k
invariant-loop-k l = Filtering l.hashes l.filter l.k

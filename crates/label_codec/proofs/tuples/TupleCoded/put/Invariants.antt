use mathlib.Core.List.{◌∷◌}
use Rattle.octets.specs.Internal.Put.{Put}
use Rattle.label_codec.specs.Tuples.{presence_of, regions_bytes}
use Rattle.label_codec.proofs.tuples.TupleCoded.put.Given as goal

abbrev pub invariant-loop-e : goal.invariant-loop-e
invariant-loop-e l = Put l.fn.out l.at (presence_of l.self ∷ regions_bytes l.width.words l.self l.e-index) l.next l.out

use Prim.Native.Nat.{◌+◌}
use lib.ListN.{length}
use Rattle.common.proofs.IndexLaws.{Filled}
use Rattle.frame.specs.Frame.{body_of}
use Rattle.label_codec.specs.Body.{byte_at}
use Rattle.hexline.proofs.parts.bytes_from.Given as goal

abbrev pub invariant-loop-k : goal.invariant-loop-k
invariant-loop-k l = Filled (λ j. byte_at (body_of l.line) (l.at + j)) (length l.initial.out) l.out l.k

use native.Mathlib.Omega.{arith}
use Rattle.common.proofs.IndexLaws.{fill_next}
use Rattle.hexline.proofs.parts.bytes_from.Goals as goal

pub loop-k-preserved : goal.loop-k-preserved
loop-k-preserved c = let n = c.loop-k.invariant.long in fill_next c.loop-k.invariant (omega arith) c.byte.ensures

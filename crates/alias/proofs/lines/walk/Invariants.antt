use Prim.Native.Nat.{◌-◌}
use lib.ListN.{length}
use Rattle.octets.specs.Lines.{lines_of}
use Rattle.alias.specs.Lines.{entries_of}
use Rattle.alias.specs.Internal.Hash.{HashesKept}
use Rattle.alias.proofs.WalkLaws.{Walking}
use Rattle.alias.proofs.lines.walk.Given as goal

abbrev pub invariant-loop-at : goal.invariant-loop-at
invariant-loop-at l = Walking l.table l.lines l.at × HashesKept (entries_of (lines_of l.table)) l.lines.count l.hashes

abbrev pub decreases-loop-at : goal.decreases-loop-at
decreases-loop-at l = length l.table - l.at

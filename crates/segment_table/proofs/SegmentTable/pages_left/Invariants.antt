use mathlib.Core.Path.{◌≡◌}
use Prim.Native.Nat.{◌+◌}
use lib.ListN.{take}
use Rattle.std.specs.List.{sum_by}
use Rattle.segment_table.specs.declared.Segment.{Segment}
use Rattle.segment_table.proofs.SegmentTable.pages_left.Given as goal

abbrev pub invariant-loop-x : goal.invariant-loop-x
invariant-loop-x l = l.left + sum_by (λ (x : Segment). x.pages) (take l.x-index l.x-items) ≡ l.limit

use mathlib.Core.Path.{◌≡◌}
use Prim.Native.Nat.{◌+◌}
use lib.ListN.{take}
use Rattle.std.specs.List.{sum_by}
use Rattle.segment_table.specs.declared.Tenant.{Tenant}
use Rattle.segment_table.proofs.SegmentTable.pool_left.Given as goal

abbrev pub invariant-loop-x : goal.invariant-loop-x
invariant-loop-x l = l.left + sum_by (λ (x : Tenant). x.ceiling) (take l.x-index l.self.tenants) ≡ l.self.pool

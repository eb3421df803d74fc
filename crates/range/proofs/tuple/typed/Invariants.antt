use Prim.Native.Nat.{ℕ, ◌<◌}
use Rattle.range.specs.Range.{TypedRange}
use Rattle.range.specs.Tuple.{region_range_at}
use Rattle.range.proofs.tuple.typed.Given as goal

abbrev pub invariant-loop-e : goal.invariant-loop-e
invariant-loop-e l = (k : ℕ) → k < l.e-index → TypedRange (region_range_at l.fn.t k).range

-- For contracts of functions that are not public: the checks that every call starts with.
use Rattle.std.specs.Prelude.{true, ◌≡◌}
use Rattle.segments.specs.Calls.{call_valid, cleared}
use Rattle.segment_table.specs.Sound.{sound}
use Rattle.segment_table.specs.declared.SegmentTable.{SegmentTable}
use Rattle.segments.specs.declared.Call.{Call}

-- a call that has passed these
pub record Started (s : SegmentTable) (c : Call) : Type 0 where
  pub sound : sound s ≡ true
  pub valid : call_valid s c ≡ true
  pub cleared : cleared s c ≡ true

use Rattle.std.proofs.Common.{sym, arith}
use Rattle.frame.proofs.FrameLoops.{spelled_even, spelled_odd}
use Rattle.frame.proofs.spelled.Goals as goal

pub returns-in_default : goal.returns-in_default
returns-in_default c = let e = c.in_default.ensures.cases in sym (spelled_even _ (omega arith))

pub returns-then-pairs-ne0 : goal.returns-then-pairs-ne0
returns-then-pairs-ne0 c = let e = c.in-Some.ensures.cases in sym (spelled_even _ (omega arith))

pub returns : goal.returns
returns c = let e = c.in-Some.ensures.cases in spelled_odd _ _ _ e.0 (omega arith) c.all_digits.ensures

use Rattle.std.proofs.Common.{sym, ◌∙◌, arith}
use Rattle.frame.proofs.FrameLoops.{body_at, body_past}
use Rattle.frame.proofs.byte.Goals as goal

pub returns-then-i-saturating_sub : goal.returns-then-i-saturating_sub
returns-then-i-saturating_sub c = let a = c.args in c.byte_at.ensures ∙ sym (body_at a.line.now a.i (omega arith))

pub returns-else-i-saturating_sub : goal.returns-else-i-saturating_sub
returns-else-i-saturating_sub c = let a = c.args in sym (body_past a.line.now a.i (omega arith))

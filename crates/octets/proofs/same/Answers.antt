use Rattle.octets.proofs.ByteLaws.{same_pointwise}
use Rattle.std.proofs.Common.{◌∙◌}
use Rattle.octets.proofs.same.Goals as goal

pub returns : goal.returns
returns c = let a = c.args in c.eq.ensures ∙ same_pointwise a.xs.now a.ys.now

use native.Mathlib.Omega.{arith}
use Rattle.octets.proofs.ByteLaws.{one_put, then_put}
use Rattle.text.proofs.write.Writer.put_category.Goals as goal

pub returns : goal.returns
returns c =
    let a = c.args in
    let h = c.requires in then_put (omega arith) (one_put a.out.now a.at a.mark (omega arith)) (rw c.zero.ensures at c.put_name.ensures)

use Rattle.octets.proofs.ByteLaws.{nothing_put}
use Rattle.text.specs.Write.{name_for}
use Rattle.text.proofs.write.Writer.put_name.Goals as goal

pub returns-in-None : goal.returns-in-None
unfolding name_for
returns-in-None c = rw (← c.last.ensures, c.in-None.is) (nothing_put c.args.out.now c.args.at)

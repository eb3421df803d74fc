use Rattle.input.proofs.InputLaws.{next_found}
use Rattle.input.proofs.find.Goals as goal

pub returns : goal.returns
returns g c = next_found c.steps-t.ensures c.found.ensures

use Rattle.input.proofs.InputLaws.{line_found, line_over}
use Rattle.input.proofs.next.Goals as goal

pub returns-then-l-eq0 : goal.returns-then-l-eq0
returns-then-l-eq0 g c = line_over c.if-l-eq0.true c.no_more.ensures

pub returns : goal.returns
returns g c = line_found c.if-l-eq0.false c.find-f.ensures c.after_find.ensures

use Rattle.alias.proofs.LookupLaws.{named_by}
use Rattle.alias.proofs.names.some_name.Goals as goal

pub returns : goal.returns
returns g c =
    let name = c.texts-t.ensures.name_value in
    let computes = c.requires.1.1 in
    named_by g.p c.args.line.now name.0 name.1 (computes _ _ c.test.ensures) (computes _ _ c.test-2.ensures)

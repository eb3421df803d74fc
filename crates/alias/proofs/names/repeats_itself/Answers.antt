use Rattle.hexline.proofs.StandingLaws.{abbreviation_stands, name_stands}
use Rattle.alias.proofs.names.repeats_itself.Goals as goal

pub returns : goal.returns
returns c =
    let a = c.args in
    rw (c.alike.ensures, c.texts-t.ensures.name_value.0, c.texts-t.ensures.name_value.1, name_stands a.line.now, abbreviation_stands a.line.now)

use mathlib.Core.Path.{sym, ◌∙◌}
use Rattle.common.proofs.BoolLaws.{neither}
use Rattle.alias.proofs.HashLaws.{not_in_filter}
use Rattle.alias.proofs.filter.collides.Goals as goal

pub returns-else-contains : goal.returns-else-contains
returns-else-contains c =
    let d = neither c.contains.result c.contains-2.result c.if-contains.false in
    c.if-contains.false ∙ sym (not_in_filter c.requires.1 c.requires.0 (sym c.contains.ensures ∙ d.0) (sym c.contains-2.ensures ∙ d.1))

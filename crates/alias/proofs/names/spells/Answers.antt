use mathlib.Core.Path.{refl, ◌∙◌}
use lib.ListN.{get_or}
use Rattle.frame.specs.Frame.{body_of}
use Rattle.alias.proofs.LookupLaws.{span_same}
use Rattle.alias.proofs.names.spells.Goals as goal

pub returns : goal.returns
returns c =
    let a = c.args in
    c.matches.ensures ∙ span_same (body_of a.line.now) a.s (λ i. get_or a.text.now i 0) a.text.now (λ i l. refl)

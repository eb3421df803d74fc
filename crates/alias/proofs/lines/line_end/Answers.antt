use mathlib.Core.Path.{ap, ◌∙◌}
use native.Mathlib.Omega.{arith}
use lib.ListN.{length, length-drop}
use Rattle.octets.specs.Bytes.{index_of, lf}
use Rattle.octets.specs.Internal.Lines.{first_length}
use Rattle.alias.proofs.lines.line_end.Goals as goal

pub returns-then-n-rest : goal.returns-then-n-rest
unfolding first_length
returns-then-n-rest c =
    let e = c.rest-rest.ensures in
    omega (arith, ap length e, ap (index_of lf) e, c.skip_chunks-i.ensures.1, c.index_of.ensures.index ∙ ap (index_of lf) c.rest.ensures)

pub returns : goal.returns
unfolding first_length
returns c =
    let e = c.rest-rest.ensures in
    let a = c.args in
    omega (arith, ap length e, ap (index_of lf) e, c.skip_chunks-i.ensures.1, c.index_of.ensures.index ∙ ap (index_of lf) c.rest.ensures, length-drop a.at a.table.now)

use Rattle.std.proofs.Common.{arith}
use Rattle.std.proofs.lemmas.Grind.{common_steps}
use Rattle.octets.proofs.ByteLaws.{same_pointwise}
use Rattle.text.specs.Read.{read_range_text}
use Rattle.text.proofs.SubjectLaws.{table_next}
use Rattle.text.proofs.read.read_range.Goals as goal

pub returns : goal.returns
unfolding read_range_text
returns c =
    let a = c.args in
    let t = table_next a.more a.table.now c.table.result c.check.ensures c.in_ok-lines.was c.table.ensures.bytes_value c.table.ensures.starts_value (λ es. read_range_text es a.caller a.text.now) in
    grind (arith, common_steps, same_pointwise)

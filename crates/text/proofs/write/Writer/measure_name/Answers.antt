use Rattle.text.proofs.WriteLaws.{name_counted, name_missing}
use Rattle.text.proofs.write.Writer.measure_name.Goals as goal

pub returns-in_err-k : goal.returns-in_err-k
returns-in_err-k c = rw c.from_residual.ensures (name_missing _ _ _ _ _ c.last.ensures c.in_err-k.was)

pub returns : goal.returns
returns c = name_counted _ _ _ _ _ c.last.ensures c.in_ok-k.was c.line.ensures c.written_in-s.ensures.value

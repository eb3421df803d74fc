use native.Mathlib.Omega.{arith}
use Rattle.octets.proofs.ByteLaws.{appended_put, both_put, second_fits}
use Rattle.alias.specs.Lines.{table_entries}
use Rattle.text.specs.Internal.Measure.{high_text}
use Rattle.text.proofs.write.Writer.put_range.Goals as goal

pub returns-then-whole : goal.returns-then-whole
returns-then-whole c =
    let a = c.args in
    both_put c.put_marked-past.ensures (high_text (table_entries a.self.now.table) a.self.now.style a.x a.whole) (omega (arith, c.requires)) (rw c.if-whole.true c.put_marked.ensures)

pub returns : goal.returns
returns c =
    let a = c.args in
    let high = high_text (table_entries a.self.now.table) a.self.now.style a.x a.whole in
    let f = second_fits c.put_marked-past.ensures high (omega (arith, c.requires)) in
    both_put c.put_marked-past.ensures high (omega (arith, c.requires)) (rw c.if-whole.false (appended_put (rw c.if-whole.false at f) c.append.ensures))

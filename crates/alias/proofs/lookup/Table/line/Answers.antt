use mathlib.Core.Path.{sym, ◌∙◌}
use native.Mathlib.Omega.{arith}
use Rattle.alias.specs.Lines.{part_at}
use Rattle.alias.proofs.LookupLaws.{lines_at, lines_past}
use Rattle.alias.proofs.lookup.Table.line.Goals as goal

pub returns-then-count-k : goal.returns-then-count-k
returns-then-count-k c = let t = c.args.self in sym (lines_past t.bytes.now t.starts.now c.args.k (omega arith))

pub returns : goal.returns
unfolding part_at
returns c = let t = c.args.self in c.part.ensures ∙ sym (lines_at t.bytes.now t.starts.now c.args.k (omega arith))

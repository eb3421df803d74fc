use Prim.Native.Nat.{◌*◌, ◌-◌}
use Rattle.label.specs.Words.{words}
use Rattle.alias.specs.Lines.{table_entries}
use Rattle.text.proofs.WriteLaws.{PutBelow}
use Rattle.text.proofs.write.Writer.put_categories.Given as goal

abbrev pub invariant-loop-k : goal.invariant-loop-k
invariant-loop-k l = PutBelow (table_entries l.self.table) l.self.style.variant l.categories l.initial.out l.at l.past l.mark l.c l.out

abbrev pub decreases-loop-k : goal.decreases-loop-k
decreases-loop-k l = words * 64 - l.c

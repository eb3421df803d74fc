use borrow.Author.Rules.{rules}
use mathlib.Core.Path.{◌≡◌}
use lib.ListN.{length}
use Rattle.label.specs.Words.{words}
use Rattle.text.proofs.WriteLaws.{measured_last, measured_missing, measured_next, measured_none}
use Rattle.text.proofs.write.Writer.measure_categories.Goals as goal

pub loop-k-init : goal.loop-k-init
loop-k-init c = let h : length c.args.categories ≡ words = search rules in measured_none h

pub returns-in_err-total : goal.returns-in_err-total
returns-in_err-total c = rw c.from_residual.ensures (measured_missing c.loop-k.invariant c.next.ensures c.in-Some.is c.zero.ensures c.measure_name.ensures c.in_err-total.was)

pub loop-k-preserved : goal.loop-k-preserved
loop-k-preserved c = measured_next c.loop-k.invariant c.next.ensures c.in-Some.is c.zero.ensures c.measure_name.ensures c.in_ok-total.was

pub returns : goal.returns
returns c = measured_last c.loop-k.invariant c.next.ensures c.in_default.is

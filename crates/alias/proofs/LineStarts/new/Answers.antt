use mathlib.Core.List.{List}
use mathlib.Core.Path.{refl, ap}
use Prim.Native.Nat.{ℕ, ◌+◌}
use Rattle.common.proofs.IndexLaws.{tabulate_one}
use Rattle.alias.specs.Lines.{max_lines}
use Rattle.alias.specs.declared.LineStarts.{LineStarts}
use Rattle.alias.proofs.LineStarts.new.Goals as goal

pub returns : goal.returns
returns c = ap {B = LineStarts} (λ (xs : List ℕ). record { count = 0; starts = xs }) (tabulate_one (λ k. 0) (max_lines + 1) 0 (λ i l. refl))

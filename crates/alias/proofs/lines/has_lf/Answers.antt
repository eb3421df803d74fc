use borrow.Author.Rules.{rules}
use mathlib.Core.Bool.{Bool, ◌||◌}
use mathlib.Core.Path.{sym, ◌∙◌}
use Prim.Native.Nat.{ℕ}
use lib.Dec.{eqb}
use Rattle.std.proofs.lemmas.Iterator.{YieldsList-from_slice}
use Rattle.std.proofs.lemmas.Iterator.Consumers.{fold_from_yields_List}
use Rattle.octets.specs.Bytes.{lf}
use Rattle.alias.proofs.ChainLaws.{some_folded}
use Rattle.alias.proofs.LinesLaws.{none_met}
use Rattle.alias.proofs.lines.has_lf.Goals as goal

pub returns : goal.returns
returns c h =
    let bs = c.args.bytes.now in
    let e = fold_from_yields_List _ (λ (m : Bool) (b : ℕ). m || eqb b lf) _ _ c.fold.ensures.ran (YieldsList-from_slice bs cc) (λ a x b q k. search rules) in
    none_met bs (sym (e ∙ some_folded (λ b. eqb b lf) bs) ∙ h)

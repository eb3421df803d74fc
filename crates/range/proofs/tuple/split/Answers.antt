use borrow.Author.Rules.{rules}
use mathlib.Core.Path.{◌≡◌}
use native.Mathlib.Omega.{arith}
use Rattle.std.proofs.lemmas.Grind.{common_steps}
use Rattle.common.specs.Index.{tabulate}
use Rattle.common.proofs.ChainLaws.{tabulate_made}
use Rattle.label.specs.Region.{regions}
use Rattle.range.specs.Tuple.{absent, cut_of, split_of}
use Rattle.range.proofs.tuple.split.Goals as goal

pub returns : goal.returns
unfolding split_of
returns c =
    let h : c.from_fn.result ≡ tabulate (cut_of c.args.x) regions = tabulate_made (cut_of c.args.x) absent (λ i e t l k. search rules) c.from_fn.ensures.items in
    grind (arith, common_steps)

use borrow.Author.Rules.{rules}
use mathlib.Core.Path.{◌∙◌}
use native.Mathlib.Omega.{arith}
use Rattle.std.proofs.lemmas.Iterator.{YieldsList-from_range}
use Rattle.std.proofs.lemmas.Iterator.Consumers.{YieldsList-from_filter, count_from_yields_List}
use Rattle.std.proofs.lemmas.List.Sums.{length-filter}
use Rattle.label.specs.Words.{bit}
use Rattle.label_codec.proofs.TupleBytesLaws.{below_counted}
use Rattle.label_codec.proofs.tuples.present_below.Goals as goal

pub returns-clause-value : goal.returns-clause-value
returns-clause-value c =
    let p = c.args.p in
    count_from_yields_List _ _ c.count.ensures.ran
    (YieldsList-from_filter _ (bit p) (YieldsList-from_range 0 c.args.n c.args.n (search rules) (omega arith)) c.filter.ensures.closure (λ x b q k. search rules))
    ∙ length-filter (bit p) _ ∙ below_counted p c.args.n

use borrow.Author.Rules.{rules}
use mathlib.Core.Path.{◌∙◌}
use lib.Bits.{bit_and}
use Rattle.common.proofs.ChainLaws.{tabulate_made}
use Rattle.label.specs.Words.{combined_at, intersection_of, words}
use Rattle.label.proofs.WordLaws.{combine_is}
use Rattle.label.proofs.words.intersection.Goals as goal

pub returns : goal.returns
unfolding intersection_of
returns c =
    tabulate_made (combined_at bit_and c.args.a c.args.b) 0 (λ i y t l k. search rules) c.from_fn.ensures.items
    ∙ combine_is bit_and _ _ words (search rules) (search rules)

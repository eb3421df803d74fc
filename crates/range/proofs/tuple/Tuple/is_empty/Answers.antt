use borrow.Author.Rules.{rules}
use mathlib.Core.Bool.{not}
use mathlib.Core.Path.{refl, ◌∙◌}
use Rattle.std.proofs.lemmas.Iterator.{YieldsList-from_slice}
use Rattle.common.proofs.ChainLaws.{all_run, every_element}
use Rattle.label.specs.Region.{regions}
use Rattle.range.specs.Tuple.{empty_of, is_there, region_range_at}
use Rattle.range.specs.declared.tuple.RegionRange.{RegionRange}
use Rattle.range.proofs.tuple.Tuple.is_empty.Goals as goal

pub returns : goal.returns
unfolding empty_of
returns c =
    all_run c.all.new.self _ (λ (e : RegionRange). not (is_there e)) c.args.self.now.ranges c.all.ensures.ran (YieldsList-from_slice c.args.self.now.ranges (search rules)) (λ x r q k. search rules)
    ∙ every_element _ (λ r. not (is_there (region_range_at c.args.self.now r))) c.args.self.now.ranges regions _ (search rules) (λ i l. refl)

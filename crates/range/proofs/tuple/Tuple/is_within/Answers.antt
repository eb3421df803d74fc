use borrow.Author.Rules.{rules}
use mathlib.Core.Path.{refl, ◌∙◌}
use Rattle.std.specs.List.{zip}
use Rattle.std.proofs.lemmas.Iterator.{YieldsList-from_slice, YieldsList-from_zip}
use Rattle.common.proofs.ChainLaws.{all_run, every_pair}
use Rattle.label.specs.Region.{regions}
use Rattle.range.specs.Tuple.{region_range_at, within_at, within_of}
use Rattle.range.specs.declared.tuple.RegionRange.{RegionRange}
use Rattle.range.proofs.tuple.Tuple.is_within.Goals as goal

pub returns : goal.returns
unfolding within_of
returns c =
    all_run c.all.new.self _ (λ (p : RegionRange × RegionRange). within_at p.0 p.1) (zip c.args.self.now.ranges c.args.other.now.ranges) c.all.ensures.ran
    (YieldsList-from_zip (YieldsList-from_slice c.args.self.now.ranges (search rules)) (YieldsList-from_slice c.args.other.now.ranges (search rules))) (λ x r q k. search rules)
    ∙ every_pair _ (λ r. within_at (region_range_at c.args.self.now r) (region_range_at c.args.other.now r)) c.args.self.now.ranges c.args.other.now.ranges regions _ _ (search rules) (search rules) (λ i l. refl)

use borrow.Author.Rules.{rules}
use mathlib.Core.Path.{refl, ◌∙◌}
use Prim.Native.Nat.{ℕ}
use Rattle.std.specs.List.{enumerate_from}
use Rattle.std.proofs.lemmas.Iterator.{YieldsList-from_slice}
use Rattle.std.proofs.lemmas.Iterator.Consumers.{YieldsList-from_enumerate}
use Rattle.common.proofs.ChainLaws.{all_run, every_indexed}
use Rattle.label.specs.Region.{regions}
use Rattle.range.specs.Tuple.{region_range_at, valid_at, valid_of}
use Rattle.range.specs.declared.tuple.RegionRange.{RegionRange}
use Rattle.range.proofs.tuple.Tuple.is_valid.Goals as goal

pub returns : goal.returns
unfolding valid_of
returns c =
    all_run c.all.new.self _ (λ (p : ℕ × RegionRange). valid_at p.0 p.1) (enumerate_from 0 c.args.self.now.ranges) c.all.ensures.ran
    (YieldsList-from_enumerate (YieldsList-from_slice c.args.self.now.ranges (search rules)) (search rules)) (λ x r q k. search rules)
    ∙ every_indexed _ (λ r. valid_at r (region_range_at c.args.self.now r)) c.args.self.now.ranges regions _ (search rules) (λ i l. refl)

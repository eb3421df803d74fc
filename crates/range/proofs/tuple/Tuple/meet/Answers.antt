use borrow.Author.Rules.{rules}
use mathlib.Core.Path.{ap}
use Rattle.common.proofs.ChainLaws.{tabulate_made}
use Rattle.range.specs.Tuple.{absent, meet_at, meet_of, region_range_at, tuple_of}
use Rattle.range.proofs.tuple.Tuple.meet.Goals as goal

pub returns : goal.returns
unfolding meet_of
returns c =
    ap tuple_of (tabulate_made (λ r. meet_at (region_range_at c.args.self.now r) (region_range_at c.args.other.now r)) absent (λ i e t l k. search rules) c.from_fn.ensures.items)

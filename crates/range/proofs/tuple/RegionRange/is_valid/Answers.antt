use borrow.Author.Rules.{rules}
use mathlib.Core.Bool.{and_assoc}
use mathlib.Core.Path.{◌≡◌}
use lib.ListN.{length}
use Rattle.label.specs.Label.{equal_of, zero_label}
use Rattle.label.specs.Words.{words}
use Rattle.label.proofs.WordLaws.{equal_words}
use Rattle.range.specs.Tuple.{valid_at}
use Rattle.range.proofs.tuple.RegionRange.is_valid.Goals as goal

pub returns : goal.returns
unfolding valid_at equal_of
returns c =
    let x = c.args.self.range in
    let l : length x.low.categories ≡ words = search rules in
    let k : length x.high.categories ≡ words = search rules in
    let h = rw (c.no_range.ensures, equal_words x.low.categories zero_label.categories l, equal_words x.high.categories zero_label.categories k) at c.eq.ensures in
    rw (← c.is_present.ensures, c.if-is_present.false, and_assoc) h

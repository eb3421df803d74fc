use borrow.Author.Rules.{rules}
use mathlib.Core.Bool.{and_assoc}
use mathlib.Core.Path.{◌≡◌, sym}
use lib.Dec.{eqb}
use lib.ListN.{length}
use Rattle.label.specs.Label
use Rattle.label.specs.Words.{words}
use Rattle.label.proofs.WordLaws.{equal_words}
use Rattle.segment_table.specs.Sound.{is_zero_segment}
use Rattle.segment_table.proofs.Segment.is_zero.Goals as goal

pub returns : goal.returns
unfolding is_zero_segment Label.equal_of
returns c =
    let x = c.args.self in
    let n : length x.label.categories ≡ words = search rules in
    rw (c.eq.ensures, c.zero_segment.ensures, equal_words x.label.categories Label.zero_label.categories n)
    (sym (and_assoc (Label.equal_of x.label Label.zero_label) (eqb x.pages 0) (eqb x.version 0)))

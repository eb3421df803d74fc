-- A set has as many categories as its words have set bits.
use borrow.Author.Rules.{rules}
use mathlib.Core.Path.{◌≡◌, ◌∙◌}
use native.Mathlib.Omega.{arith}
use lib.Count.{ones}
use lib.ListN.{length}
use mir.Syntax.{w64}
use mir.Val.{Fits}
use Rattle.std.proofs.lemmas.Iterator.{YieldsList-from_map, YieldsList-from_slice}
use Rattle.std.proofs.lemmas.Iterator.Consumers.{fits_by_from_yields_list, sum_by_from_yields_List}
use Rattle.label.specs.Words.{word_at, words}
use Rattle.label.proofs.ListingLaws.{count_at_most, count_words}
use Rattle.label.proofs.words.count.Goals as goal

pub sum-requires-clause-fits : goal.sum-requires-clause-fits
sum-requires-clause-fits c =
    let a = c.args.a in
    let l : length a ≡ words = search rules in
    fits_by_from_yields_list ones a c.map.result _ (YieldsList-from_map _ ones (YieldsList-from_slice a (search rules)) (search rules) (λ x r q k. search rules))
    (omega (arith, count_at_most a (λ i. let fits : Fits w64 (word_at a i) = search rules in fits.fits)))

pub returns : goal.returns
returns c =
    let a = c.args.a in
    sum_by_from_yields_List ones a c.map.result _ c.sum.ensures.ran (YieldsList-from_map _ ones (YieldsList-from_slice a (search rules)) (search rules) (λ x r q k. search rules))
    ∙ count_words a (λ i. let fits : Fits w64 (word_at a i) = search rules in fits.fits)

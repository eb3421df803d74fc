use borrow.Author.Rules.{rules}
use mathlib.Core.Path.{refl, ◌∙◌}
use Rattle.std.proofs.lemmas.Iterator.{YieldsList-from_slice}
use Rattle.std.proofs.lemmas.Iterator.Search.{all_from_yields_List}
use Rattle.label.specs.Region.{regions}
use Rattle.common.proofs.ChainLaws.{every_element}
use Rattle.label_codec.specs.Codec.{region_fits}
use Rattle.label_codec.proofs.tuples.TupleCoded.fits.Goals as goal

pub returns : goal.returns
returns c =
    let t = c.args.self.now in
    all_from_yields_List region_fits _ _ c.all.result c.all.ensures.ran (YieldsList-from_slice t.ranges cc) (λ x b q k. search rules)
    ∙ every_element region_fits _ t.ranges regions _ (search rules) (λ i l. refl)

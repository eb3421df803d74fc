use mathlib.Core.Path.{sym, ◌∙◌}
use Rattle.label_codec.proofs.TupleBytesLaws.{region_none, region_there}
use Rattle.label_codec.proofs.tuples.RegionRangeCoded.size.Goals as goal

pub returns-then-is_present : goal.returns-then-is_present
returns-then-is_present c =
    let a = c.args in
    rw (region_there a.width.words a.self.now (sym c.is_present.ensures ∙ c.if-is_present.true)) c.size.ensures

pub returns : goal.returns
returns c = let a = c.args in rw (region_none a.width.words a.self.now (sym c.is_present.ensures ∙ c.if-is_present.false))

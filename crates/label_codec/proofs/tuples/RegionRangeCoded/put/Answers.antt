use mathlib.Core.Path.{sym, ◌∙◌}
use Rattle.octets.proofs.ByteLaws.{nothing_put}
use Rattle.label_codec.proofs.TupleBytesLaws.{region_none, region_there}
use Rattle.label_codec.proofs.tuples.RegionRangeCoded.put.Goals as goal

pub put-requires : goal.put-requires
put-requires c =
    let a = c.args in
    let e = sym c.is_present.ensures ∙ c.if-is_present.true in
    (rw (region_there a.width.words a.self.now e) at c.requires.0, rw e at c.requires.1)

pub returns-then-is_present : goal.returns-then-is_present
returns-then-is_present c =
    let a = c.args in
    rw (region_there a.width.words a.self.now (sym c.is_present.ensures ∙ c.if-is_present.true)) c.put.ensures

pub returns : goal.returns
returns c = let a = c.args in rw (region_none a.width.words a.self.now (sym c.is_present.ensures ∙ c.if-is_present.false)) (nothing_put _ _)

use mathlib.Core.Path.{sym, ◌∙◌}
use borrow.Author.Count.{below_more}
use Rattle.alias.proofs.HashLaws.{filter_next}
use Rattle.alias.proofs.filter.some_collide.Goals as goal

-- After k entries their hashes are in the filter and none of them collides with an earlier one (`Filtering`); the next one is held against the
-- filter and then inserted.

pub loop-k-preserved : goal.loop-k-preserved
loop-k-preserved c =
    let v = c.loop-k.invariant in
    record {
      hashes = filter_next v.hashes c.insert.ensures c.insert-in-loop-k.ensures;
      clear = below_more _ _ v.clear (sym c.collides.ensures ∙ c.if-collides.false);
    }

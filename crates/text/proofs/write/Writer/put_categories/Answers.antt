-- The categories below c are put (`PutBelow`); each turn puts the next one (`put_next`), and where there is none, all are put (`put_last`).
use borrow.Author.Rules.{rules}
use mathlib.Core.Path.{◌≡◌}
use lib.ListN.{length}
use Rattle.label.specs.Words.{words}
use Rattle.text.proofs.WriteLaws.{put_last, put_next, put_none, put_room}
use Rattle.text.proofs.write.Writer.put_categories.Goals as goal

pub loop-k-init : goal.loop-k-init
loop-k-init c = let h : length c.args.categories ≡ words = search rules in put_none h

pub put_category-past-requires : goal.put_category-past-requires
put_category-past-requires c = put_room c.loop-k.invariant c.next.ensures c.requires c.in-Some.is

pub loop-k-preserved : goal.loop-k-preserved
loop-k-preserved c = put_next c.loop-k.invariant c.next.ensures c.requires c.in-Some.is c.put_category-past.ensures

pub returns : goal.returns
returns c = put_last c.loop-k.invariant c.next.ensures c.in_default.is

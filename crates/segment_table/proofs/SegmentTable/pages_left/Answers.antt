use borrow.Author.Rules.{rules}
use mathlib.Core.Path.{◌≡◌, sym, ◌∙◌}
use native.Mathlib.Omega.{arith}
use lib.ListN.{length}
use Rattle.segment_table.specs.Segments.{no_segment, slot_total}
use Rattle.segment_table.specs.declared.Segment.{Segment}
use Rattle.segment_table.proofs.LimitLaws.{take_all, take_over}
use Rattle.segment_table.proofs.SlotsLaws.{left_lent}
use Rattle.segment_table.proofs.SegmentTable.pages_left.Goals as goal

pub returns-in_err-left : goal.returns-in_err-left
returns-in_err-left c =
    let a = c.args in
    let own = c.in_ok-x-items.x-items.now in
    let n : length a.self.now.segments ≡ slot_total = search rules in
    c.from_residual-in_err-left.ensures
    ∙ sym (take_over (λ (x : Segment). x.pages) own a.limit c.loop-x.x-index c.loop-x.left no_segment c.loop-x-test.true (let h = c.in_err-left.ensures in omega (arith, h)) c.loop-x.invariant)
    ∙ left_lent a.self.now a.t a.limit own n (sym c.in_ok-x-items.ensures)

pub returns : goal.returns
returns c =
    let a = c.args in
    let own = c.in_ok-x-items.x-items.now in
    let n : length a.self.now.segments ≡ slot_total = search rules in
    sym (take_all (λ (x : Segment). x.pages) own a.limit c.loop-x.x-index c.loop-x.left c.loop-x-test.false c.loop-x.invariant)
    ∙ left_lent a.self.now a.t a.limit own n (sym c.in_ok-x-items.ensures)

use mathlib.Core.Bool.{Bool}
use mathlib.Core.Path.{refl, sym, ◌∙◌, subst}
use borrow.Author.Tests.{leb-false, leb-true}
use native.Mathlib.Omega.{arith}
use Rattle.octets.proofs.LineLaws.{line_here}
use Rattle.octets.specs.Lines.{lines_of}
use Rattle.alias.specs.Lines.{entries_of}
use Rattle.alias.specs.Internal.Walk.{Walks}
use Rattle.alias.proofs.HashLaws.{keep_none}
use Rattle.alias.proofs.LookupLaws.{entry_of}
use Rattle.alias.proofs.TableLaws.{faulty_late, faulty_not, faulty_unread}
use Rattle.alias.proofs.WalkLaws.{walk_ends, walk_next, walk_start, walk_stops}
use Rattle.alias.proofs.lines.walk.Goals.{in_default-via-in-Some+else-not-is_full, in_default-via-in_default}
use Rattle.alias.proofs.lines.walk.Goals as goal

-- The lines and the hashes so far are right (`Walking`, `HashesKept`): a line that is not bad by itself takes both one further, and the first that is
-- ends the walk.

pub loop-at-init : goal.loop-at-init
loop-at-init c = let t = c.args.table.now in rw c.requires (walk_start t, keep_none (entries_of (lines_of t)) c.args.hashes.now)

pub slice_bounds-line_hashes-end : goal.slice_bounds-line_hashes-end
slice_bounds-line_hashes-end c =
    let h = line_here c.args.table.now c.loop-at.lines.count c.loop-at.at c.loop-at.invariant.0.begins c.line_end-next.result c.loop-at-test.true c.line_end-next.ensures in
    omega arith

pub returns-in_default-clause-walks : goal.returns-in_default-clause-walks
returns-in_default-clause-walks c =
    let h = line_here c.args.table.now c.loop-at.lines.count c.loop-at.at c.loop-at.invariant.0.begins c.line_end-next.result c.loop-at-test.true c.line_end-next.ensures in (
      refl,
      walk_stops c.loop-at.invariant.0 h c.args.more (elim c.in_default.branch [
        | in_default-via-in-Some+else-not-is_full w ↦ faulty_late _ _ (leb-true _ _ (sym w.is_full.ensures ∙ w.if-not-is_full.false))
        | in_default-via-in_default w ↦ faulty_unread _ _ (sym w.in_default.ensures.accepted)
      ]),
    )

pub loop-at-smaller : goal.loop-at-smaller
loop-at-smaller c =
    let h = line_here c.args.table.now c.loop-at.lines.count c.loop-at.at c.loop-at.invariant.0.begins c.line_end-next.result c.loop-at-test.true c.line_end-next.ensures in
    omega arith

pub loop-at-preserved : goal.loop-at-preserved
loop-at-preserved c =
    let table = c.args.table.now in
    let count = c.loop-at.lines.count in
    let h = line_here table count c.loop-at.at c.loop-at.invariant.0.begins c.line_end-next.result c.loop-at-test.true c.line_end-next.ensures in
    rw c.push.ensures (
      walk_next c.loop-at.invariant.0 h (faulty_not _ _ (leb-false _ _ (sym c.is_full.ensures ∙ c.if-not-is_full.true)) (sym c.in-Some.ensures.accepted)),
      c.keep.ensures (entries_of (lines_of table)) c.loop-at.invariant.1 (rw (entry_of (lines_of table) count h.below, h.line) c.in-Some.ensures.hashes_of),
    )

pub returns-then-more-clause-walks : goal.returns-then-more-clause-walks
returns-then-more-clause-walks c =
    let P : Bool → Type 0 = λ b. Walks c.args.more c.args.table.now c.loop-at.lines b in
    (refl, subst P c.if-more.true (walk_ends c.loop-at.invariant.0 c.args.more c.loop-at-test.false))

pub returns-clause-walks : goal.returns-clause-walks
returns-clause-walks c =
    let P : Bool → Type 0 = λ b. Walks c.args.more c.args.table.now c.loop-at.lines b in
    subst P c.if-more.false (walk_ends c.loop-at.invariant.0 c.args.more c.loop-at-test.false)

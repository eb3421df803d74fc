use Rattle.std.proofs.Common.{arith}
use Rattle.text_cmd.proofs.run.Goals as goal

pub loop-lines-init : goal.loop-lines-init
loop-lines-init g c = c.next-lines.ensures.at_hand

pub loop-lines-smaller : goal.loop-lines-smaller
loop-lines-smaller g c =
    let h = c.loop-lines.invariant _ c.in-Some.is in
    let f = c.next-lines-in-Some.ensures.fewer in
    omega arith

pub loop-lines-preserved : goal.loop-lines-preserved
loop-lines-preserved g c = c.next-lines-in-Some.ensures.at_hand

use Rattle.std.proofs.Common.{◌∙◌, arith, length-set}
use Rattle.frame.specs.Frame.{bytes_of}
use Rattle.frame.proofs.FrameLaws.{bytes_length}
use Rattle.frame.proofs.FrameLoops.{front_next}
use Rattle.frame.proofs.fill.Goals as goal

pub loop-i-preserved : goal.loop-i-preserved
loop-i-preserved c =
    let line = c.args.line.now in
    let i = c.loop-i.invariant in (
      front_next (bytes_of line) c.loop-i.out c.loop-i.i _ (omega (arith, bytes_length line, c.requires)) (omega arith) i.0 c.byte_at.ensures,
      length-set c.loop-i.out _ _ ∙ i.1,
    )

use Rattle.std.proofs.Common.{◌/◌, ◌%◌, arith}
use Rattle.frame.proofs.FrameLaws.{value_small}
use Rattle.frame.proofs.FrameLoops.{pair_byte}
use Rattle.frame.proofs.byte_at.Goals as goal

pub overflow_cast-result : goal.overflow_cast-result
overflow_cast-result c =
    let p = c.pair.result in
    record { fits = omega (arith, c.pair_value.ensures, value_small (p % 256), value_small (p / 256)) }

pub returns : goal.returns
returns c = pair_byte c.args.line.now c.args.i c.pair.result c.requires c.pair.ensures.0 c.pair.ensures.1 c.pair_value.ensures

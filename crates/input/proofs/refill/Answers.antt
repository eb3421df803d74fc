use Rattle.std.proofs.Common.{◌≡◌, None, Some, arith}
use Rattle.input.proofs.refill.Goals as goal

pub returns-in-Ok : goal.returns-in-Ok
returns-in-Ok g c =
    let b = c.in-Ok.ensures.bound in
    record { count = Some c.in-Ok.n; within = λ m f. let z : c.in-Ok.n ≡ m = cc in omega (arith, c.read.auto.buf); turn_is = c.after_read.ensures }

pub returns-in-Err : goal.returns-in-Err
returns-in-Err g c = record { count = None; within = λ m f. cc; turn_is = c.after_read-in-Err.ensures }

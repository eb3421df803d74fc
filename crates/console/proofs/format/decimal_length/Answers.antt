use Rattle.std.proofs.Common.{arith}
use Rattle.console.proofs.DecimalLaws.{length_by_power, length_one}
use Rattle.console.proofs.format.decimal_length.Goals as goal

pub returns-in-Some : goal.returns-in-Some
returns-in-Some c =
    let e = c.in-Some.ensures in
    let l = length_by_power c.args.n c.in-Some.k e.power_le e.next_power_gt in record { count = omega arith; at_most_lem = omega arith }

pub returns-in-None : goal.returns-in-None
returns-in-None c = let e = c.in-None.ensures.none in let l = length_one c.args.n (omega arith) in record { count = omega arith; at_most_lem = omega arith }

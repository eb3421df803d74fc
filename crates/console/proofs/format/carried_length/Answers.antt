use Rattle.std.proofs.Common.{arith}
use Rattle.console.specs.Format.{carried_text}
use Rattle.console.proofs.format.carried_length.Goals as goal

pub returns-in-Some : goal.returns-in-Some
unfolding carried_text
returns-in-Some c = let e = c.decimal_length.ensures in record { count = rw c.in-Some.is (omega arith); at_most_lem = omega arith }

pub returns-in-None : goal.returns-in-None
unfolding carried_text
returns-in-None c = record { count = rw c.in-None.is; at_most_lem = omega arith }

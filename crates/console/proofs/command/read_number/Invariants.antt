-- The value so far and the rest of the field make the number that the field is (`number_from`): a digit goes over from the rest to the value
-- (`number_pass`), and any other byte, or a value of 2 ^ 64 or more, ends it with no number.
use Rattle.std.proofs.Common.{◌≡◌, ◌^◌, ◌<◌, drop}
use Rattle.console.specs.Command.{field_number}
use Rattle.console.proofs.NumberLaws.{number_from}
use Rattle.console.proofs.command.read_number.Given as goal

abbrev pub invariant-loop-b : goal.invariant-loop-b
invariant-loop-b l = (l.value < 2 ^ 64) × (field_number l.text ≡ number_from l.value (drop l.b-index l.text))

-- Who asks, as C has it.
use Rattle.std.specs.Prelude.{Bool}
use Rattle.label.specs.declared.caller.Caller as core_caller
use Rattle.abi.specs.Flag
use Rattle.abi.specs.declared.caller.CCaller.{CCaller}

abbrev pub caller_formed : CCaller → Bool
caller_formed c = Flag.formed_of c.read_override

abbrev pub caller_of : CCaller → core_caller.Caller
caller_of c = record { label = c.label; read_override = Flag.decoded_of c.read_override }

-- What the monitor is asked, as C has it.
use Rattle.std.specs.Prelude.{Bool, ◌&&◌, ℕ, is_some, unwrap_or}
use Rattle.monitor.specs.Numbers.{object_type, type_named}
use Rattle.monitor.specs.declared.Credentials as core_credentials
use Rattle.monitor.specs.declared.FileKind.TheVariants.{Regular}
use Rattle.monitor.specs.declared.Object as core_object
use Rattle.monitor.specs.declared.ObjectClass.TheVariants.{File}
use Rattle.monitor.specs.declared.Request as core_request
use Rattle.monitor.specs.declared.numbers.ObjectType.{ObjectType}
use Rattle.abi.specs.Caller.{caller_of}
use Rattle.abi.specs.Flag
use Rattle.abi.specs.declared.caller.CCaller.{CCaller}
use Rattle.abi.specs.declared.request.CCredentials.{CCredentials}
use Rattle.abi.specs.declared.request.CObject.{CObject}

abbrev pub credentials_formed : CCredentials → Bool
credentials_formed c = Flag.formed_of c.read_override && Flag.formed_of c.write_override && Flag.formed_of c.relabel

abbrev pub credentials_of : CCredentials → core_credentials.Credentials
credentials_of c = record {
  label = c.label;
  range = c.range;
  privileges = record {
    read = Flag.decoded_of c.read_override;
    write = Flag.decoded_of c.write_override;
    relabel = Flag.decoded_of c.relabel;
  };
}

-- the two numbers name a class and a kind, and the flags are some that there are
abbrev pub object_formed : CObject → Bool
object_formed o = is_some (type_named o.class o.kind) && Flag.formed_of o.has_label && Flag.formed_of o.has_tuple

-- what the two numbers name; of numbers that name nothing, what the number 0 names
abbrev pub type_in : CObject → ObjectType
type_in o = unwrap_or (type_named o.class o.kind) (object_type File Regular)

abbrev pub object_of : CObject → core_object.Object
object_of o = record {
  class = (type_in o).class;
  kind = (type_in o).kind;
  present = record { label = Flag.decoded_of o.has_label; tuple = Flag.decoded_of o.has_tuple };
  label = o.label;
  tuple = o.tuple;
}

abbrev pub monitor_request : CCaller → CCredentials → CObject → ℕ → ℕ → core_request.Request
monitor_request k c o intents attribute = record {
  credentials = credentials_of c;
  object = object_of o;
  intents = intents;
  attribute = attribute;
  caller = caller_of k;
}

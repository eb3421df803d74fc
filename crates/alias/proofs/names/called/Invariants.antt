use Rattle.octets.specs.Bytes.{same_bytes}
use Rattle.alias.proofs.names.called.Given as goal

abbrev pub ghost-some_name : goal.ghost-some_name
ghost-some_name a xs = same_bytes xs a.test.1.now

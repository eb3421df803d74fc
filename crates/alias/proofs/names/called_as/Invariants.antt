use Rattle.frame.specs.Frame.{body_of}
use Rattle.octets.specs.Bytes.{same_bytes}
use Rattle.alias_entry.specs.Internal.Spans.{span_bytes}
use Rattle.alias.proofs.names.called_as.Given as goal

abbrev pub ghost-some_name : goal.ghost-some_name
ghost-some_name a xs = same_bytes xs (span_bytes (body_of a.test.1.now) a.test.2)

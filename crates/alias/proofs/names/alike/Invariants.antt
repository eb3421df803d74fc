use Prim.Native.Nat.{◌+◌}
use Rattle.frame.specs.Frame.{body_of}
use Rattle.label_codec.specs.Body.{byte_at}
use Rattle.alias.proofs.names.alike.Given as goal

abbrev pub ghost-matches : goal.ghost-matches
ghost-matches a i = byte_at (body_of a.other.0.now) (a.other.1.now + i)

use mathlib.Core.Path.{◌≡◌}
use Prim.Native.Nat.{◌+◌, ◌≤◌}
use lib.ListN.{length}
use lib.Seq.{paste}
use Rattle.frame.specs.Frame.{body_of}
use Rattle.alias_entry.specs.Internal.Spans.{span_bytes}
use Rattle.text.proofs.write.Writer.put_found.Given as goal

abbrev pub invariant-loop-i : goal.invariant-loop-i
invariant-loop-i l =
    let name = span_bytes (body_of l.line) l.s in
    (l.at + length name ≤ length l.initial.out) × (l.out ≡ paste l.initial.out l.at name l.i)

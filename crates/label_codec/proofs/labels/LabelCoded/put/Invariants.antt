use mathlib.Core.Path.{◌≡◌}
use Prim.Native.Nat.{◌+◌, ◌*◌}
use Rattle.common.specs.Index.{tabulate}
use Rattle.label_codec.specs.Body.{category_byte}
use Rattle.octets.specs.Internal.Put.{Put}
use Rattle.label_codec.proofs.labels.LabelCoded.put.Given as goal

abbrev pub invariant-loop-w : goal.invariant-loop-w
invariant-loop-w l =
    (l.next ≡ l.at + 1 + 8 * l.w-index) × Put l.initial.out (l.at + 1) (tabulate (category_byte l.self.categories) (8 * l.w-index)) l.next l.out

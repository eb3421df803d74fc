-- The search from bit `below` of word i on answers as the one from `from` on.
use mathlib.Core.Path.{◌≡◌}
use Prim.Native.Nat.{◌+◌, ◌*◌, ◌<◌}
use Rattle.label.specs.Words.{next_category_from}
use Rattle.label.proofs.words.next.Given as goal

abbrev pub invariant-loop-i : goal.invariant-loop-i
invariant-loop-i l = (l.below < 64) × (next_category_from l.a l.from ≡ next_category_from l.a (l.i * 64 + l.below))

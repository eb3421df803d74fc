-- A line at hand counts as one that may still come; each line leaves fewer of them.
use Rattle.std.proofs.Common.{◌≡◌, ◌<◌, Some, ℕ}
use Rattle.text_cmd.proofs.run.Given as goal

abbrev pub invariant-loop-lines : goal.invariant-loop-lines
invariant-loop-lines g l = (n : ℕ) → l.lines.line ≡ Some n → 0 < l.lines.left

abbrev pub decreases-loop-lines : goal.decreases-loop-lines
decreases-loop-lines g l = l.lines.left

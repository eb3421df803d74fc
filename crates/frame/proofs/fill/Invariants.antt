-- Each turn stores the next byte of the line (`front_next`), until the buffer is full.
use Rattle.std.proofs.Common.{◌≡◌, length, take}
use Rattle.frame.specs.Frame.{bytes_of}
use Rattle.frame.proofs.fill.Given as goal

abbrev pub invariant-loop-i : goal.invariant-loop-i
invariant-loop-i l = (take l.i l.out ≡ take l.i (bytes_of l.line)) × (length l.out ≡ length l.initial.out)

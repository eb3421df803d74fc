-- After i bytes their digits stand at the front of the buffer, and s is their sum modulo 256; a byte adds its two digits (`digits_next`) and
-- itself (`sum_next`).
use Rattle.std.proofs.Common.{◌≡◌, ◌%◌, take}
use Rattle.common.specs.Buffer.{overlay}
use Rattle.frame.specs.Frame.{digits_of, sum_of}
use Rattle.frame.proofs.spell.Given as goal

abbrev pub invariant-loop-i : goal.invariant-loop-i
invariant-loop-i l = (l.out ≡ overlay (digits_of (take l.i l.body)) l.initial.out) × (l.s ≡ sum_of (take l.i l.body) % 256)

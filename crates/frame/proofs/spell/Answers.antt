use Rattle.std.proofs.Common.{ℕ, ◌+◌, ◌*◌, ◌/◌, ◌%◌, List, get_or, set, refl, ap, ◌∙◌, arith}
use Rattle.frame.specs.Frame.{digit_of, digits_of, sum_of}
use Rattle.frame.proofs.FrameLoops.{digits_next, sum_next}
use Rattle.frame.proofs.spell.Goals as goal

pub loop-i-init : goal.loop-i-init
unfolding sum_of digits_of
loop-i-init c = (refl, refl)

pub loop-i-preserved : goal.loop-i-preserved
loop-i-preserved c =
    let body = c.args.body.now in
    let out = c.args.out.now in
    let i = c.loop-i.i in (
      c.put.ensures ∙ ap (λ (l : List ℕ). set (set l (2 * i) (digit_of (get_or body i 0 / 16))) (2 * i + 1) (digit_of (get_or body i 0 % 16))) c.loop-i.invariant.0
          ∙ digits_next body out i c.loop-i-test.true c.requires,
      sum_next body i c.loop-i.s c.loop-i-test.true (let e = c.loop-i.invariant.1 in omega arith),
    )

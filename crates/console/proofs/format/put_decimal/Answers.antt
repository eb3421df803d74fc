use Rattle.std.proofs.Common.{◌≡◌, ◌+◌, ◌-◌, sym, ap, ◌∙◌, arith, length-set, ℕ}
use Rattle.octets.proofs.ByteLaws.{put_nil}
use Rattle.console.proofs.FormatLaws.{put_step}
use Rattle.console.proofs.format.put_decimal.Goals as goal

pub loop-i-preserved : goal.loop-i-preserved
loop-i-preserved c =
    let a = c.args in
    let l = c.loop-i in
    let s = put_step l.out a.at a.n l.left {i = l.i} c.loop-i-test.true (omega arith) (omega arith) (l.invariant.left c.loop-i-test.true) in
    record { long = length-set l.out _ _ ∙ l.invariant.long; left = s.1; so_far = s.0 ∙ l.invariant.so_far }

pub returns : goal.returns
returns c =
    let a = c.args in
    let l = c.loop-i in
    let none : l.i - a.at ≡ 0 = omega arith in
    record {
      past = ap (λ (k : ℕ). a.at + k) c.decimal_length.ensures.count;
      written = sym (put_nil l.out a.at) ∙ (rw none at l.invariant.so_far);
    }

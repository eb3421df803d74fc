-- Digits are put from the last to the first: the first digits of n, which are those of what is left, put in front of those that are there, make n as
-- it was asked for. A step takes the last digit off what is left (`digits_step`).
use Rattle.std.proofs.Common.{◌≡◌, ◌-◌, ◌<◌, length, take}
use Rattle.octets.specs.Bytes.{put_at}
use Rattle.console.specs.Format.{decimal_of}
use Rattle.console.proofs.format.put_decimal.Given as goal

abbrev pub invariant-loop-i : goal.invariant-loop-i
invariant-loop-i l =
    record {
      long : length l.out ≡ length l.initial.out;
      left : l.at < l.i → decimal_of l.left ≡ take (l.i - l.at) (decimal_of l.n);
      so_far : put_at l.out l.at (take (l.i - l.at) (decimal_of l.n)) ≡ put_at l.initial.out l.at (decimal_of l.n);
    }

use Rattle.std.proofs.Common.{◌≡◌, ℕ, suc, arith, length, Option, Some}
use Rattle.octets.proofs.ByteLaws.{appended_put, nothing_put, then_put}
use Rattle.console.specs.Format.{carried_text, decimal_of}
use Rattle.console.proofs.format.put_carried.Goals as goal

-- where a number is carried
text_length : (carried : Option ℕ) (n : ℕ) → carried ≡ Some n → length (carried_text carried) ≡ suc (length (decimal_of n))
unfolding carried_text
text_length carried n e = rw e

pub put_decimal-requires : goal.put_decimal-requires
put_decimal-requires c =
    let l = text_length c.args.carried c.in-Some.n c.in-Some.is in
    let p = appended_put (omega arith) c.append-next.ensures in
    let e = p.past in omega arith

pub returns-in-Some : goal.returns-in-Some
unfolding carried_text
returns-in-Some c =
    let l = text_length c.args.carried c.in-Some.n c.in-Some.is in
    let b = appended_put (omega arith) c.append-next.ensures in
    let e = b.past in rw c.in-Some.is (then_put (omega arith) b c.put_decimal.ensures)

pub returns-in-None : goal.returns-in-None
unfolding carried_text
returns-in-None c = rw c.in-None.is (nothing_put c.args.out.now c.args.at)

use Rattle.std.proofs.Common.{◌≡◌, ◌+◌, ℕ, Bool, leb, length, List, arith, Option}
use Rattle.common.specs.Errno.{detail_of, errno_number}
use Rattle.common.specs.declared.errno.Errno.{Errno}
use Rattle.octets.proofs.ByteLaws.{Tested, appended, left_out, room_for}
use Rattle.console.specs.Format.{carried_text, decimal_of, error_text, refusal_text}
use Rattle.console.proofs.FormatLaws.{refusal_length}
use Rattle.console.proofs.format.append_error.Goals as goal

-- the line to print
line_is : (e : Errno) (number : ℕ) (carried : Option ℕ) → number ≡ errno_number e → carried ≡ detail_of e → error_text e ≡ refusal_text number carried
unfolding error_text
line_is e number carried h k = rw (← h, ← k)

-- where the two ways part
tested : (out : List ℕ) (at number : ℕ) (carried : Option ℕ) {d k : ℕ} {b : Bool} → d ≡ length (decimal_of number) → k ≡ length (carried_text carried)
    → b ≡ leb (at + (6 + d + k + 1)) (length out) → Tested out at (refusal_text number carried) (6 + d + k + 1) b
tested out at number carried e f room = record { count = omega (arith, refusal_length number carried); room = room }

pub put_refusal-requires : goal.put_refusal-requires
put_refusal-requires c =
    let a = c.args in
    room_for (tested a.out.now a.at c.number-number.result c.detail-carried.result c.decimal_length.ensures.count c.carried_length.ensures.count c.fits.ensures) c.if-fits.true

pub returns-then-fits : goal.returns-then-fits
returns-then-fits c =
    let a = c.args in
    let t = tested a.out.now a.at c.number-number.result c.detail-carried.result c.decimal_length.ensures.count c.carried_length.ensures.count c.fits.ensures in
    rw (line_is a.e c.number-number.result c.detail-carried.result c.number-number.ensures c.detail-carried.ensures) (appended t c.if-fits.true c.put_refusal.ensures)

pub returns : goal.returns
returns c =
    let a = c.args in
    let t = tested a.out.now a.at c.number-number.result c.detail-carried.result c.decimal_length.ensures.count c.carried_length.ensures.count c.fits.ensures in
    rw (line_is a.e c.number-number.result c.detail-carried.result c.number-number.ensures c.detail-carried.ensures) (left_out t c.if-fits.false)

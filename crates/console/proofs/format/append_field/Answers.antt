use Rattle.std.proofs.Common.{◌≡◌, ◌+◌, ℕ, Bool, leb, length, List, arith, length-append}
use Rattle.octets.proofs.ByteLaws.{Tested, appended, appended_put, both_put, first_fits, left_out, room_for, second_fits}
use Rattle.console.specs.Format.{decimal_of, field}
use Rattle.console.proofs.format.append_field.Goals as goal

-- where the two ways part
tested : (out : List ℕ) (at : ℕ) (word : List ℕ) (n : ℕ) {d : ℕ} {b : Bool} → d ≡ length (decimal_of n) → b ≡ leb (at + (length word + d)) (length out)
    → Tested out at (field word n) (length word + d) b
tested out at word n e room = record { count = omega (arith, length-append word (decimal_of n)); room = room }

pub put_decimal-requires : goal.put_decimal-requires
put_decimal-requires c =
    let a = c.args in
    let room = room_for (tested a.out.now a.at a.word.now a.n c.decimal_length.ensures.count c.fits.ensures) c.if-fits.true in
    second_fits (appended_put (first_fits a.at (length a.out.now) a.word.now (decimal_of a.n) room) c.append-next.ensures) (decimal_of a.n) room

pub returns-then-fits : goal.returns-then-fits
returns-then-fits c =
    let a = c.args in
    let t = tested a.out.now a.at a.word.now a.n c.decimal_length.ensures.count c.fits.ensures in
    let room = room_for t c.if-fits.true in
    let q = appended_put (first_fits a.at (length a.out.now) a.word.now (decimal_of a.n) room) c.append-next.ensures in
    appended t c.if-fits.true (both_put q (decimal_of a.n) room c.put_decimal.ensures)

pub returns : goal.returns
returns c =
    let a = c.args in
    left_out (tested a.out.now a.at a.word.now a.n c.decimal_length.ensures.count c.fits.ensures) c.if-fits.false

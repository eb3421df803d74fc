use Rattle.std.proofs.Common.{length, refl}
use Rattle.octets.proofs.ByteLaws.{Tested, appended, left_out}
use Rattle.octets.proofs.append.Goals as goal

pub returns-then-fits : goal.returns-then-fits
returns-then-fits c =
    let a = c.args in
    let t : Tested a.out.now a.at a.text.now (length a.text.now) c.fits.result = record { count = refl; room = c.fits.ensures } in
    appended t c.if-fits.true c.put.ensures

pub returns : goal.returns
returns c =
    let a = c.args in
    let t : Tested a.out.now a.at a.text.now (length a.text.now) c.fits.result = record { count = refl; room = c.fits.ensures } in
    left_out t c.if-fits.false

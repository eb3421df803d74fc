use Rattle.octets.proofs.ByteLaws.{Tested, appended, left_out}
use Rattle.console.specs.Format.{decimal_of}
use Rattle.console.proofs.format.append_decimal.Goals as goal

pub returns-then-fits : goal.returns-then-fits
returns-then-fits c =
    let a = c.args in
    let t : Tested a.out.now a.at (decimal_of a.n) c.decimal_length.result c.fits.result = record { count = c.decimal_length.ensures.count; room = c.fits.ensures } in
    appended t c.if-fits.true c.put_decimal.ensures

pub returns : goal.returns
returns c =
    let a = c.args in
    let t : Tested a.out.now a.at (decimal_of a.n) c.decimal_length.result c.fits.result = record { count = c.decimal_length.ensures.count; room = c.fits.ensures } in
    left_out t c.if-fits.false

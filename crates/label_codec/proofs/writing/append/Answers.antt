-- The code tests at once whether the value fits its bytes and these the buffer, which is what `code_left_out` and `code_put` go by.
use mathlib.Core.Bool.{◌&&◌}
use mathlib.Core.Path.{sym, ap₂, ◌∙◌}
use Rattle.common.proofs.BoolLaws.{first_true}
use Rattle.label_codec.specs.Codec.{width}
use Rattle.label_codec.proofs.BodyLoops.{code_left_out, code_put, code_room}
use Rattle.label_codec.proofs.writing.append.Goals as goal

pub returns-then-not-room : goal.returns-then-not-room
returns-then-not-room g c =
    let a = c.args in
    let t = g.T.Coded in
    code_left_out a.out.now a.at (t.bytes (width a.words) a.value.now) (t.fitting a.value.now) c.size.result (rw c.of-width.ensures at (sym c.size.ensures))
    (sym (ap₂ ◌&&◌ c.fits.ensures c.fits-2.ensures) ∙ c.if-not-room.true)

pub put-requires : goal.put-requires
put-requires g c =
    let a = c.args in
    let t = g.T.Coded in
    let e = sym (ap₂ ◌&&◌ c.fits.ensures c.fits-2.ensures) ∙ c.if-not-room.false in (
      code_room a.out.now a.at (t.bytes c.of-width.result.words a.value.now) (t.fitting a.value.now) c.size.result (sym c.size.ensures) e,
      first_true (t.fitting a.value.now) _ e,
    )

pub returns : goal.returns
returns g c =
    let a = c.args in
    let t = g.T.Coded in
    code_put a.out.now a.at (t.bytes (width a.words) a.value.now) (t.fitting a.value.now) c.size.result (rw c.of-width.ensures at (sym c.size.ensures))
    (sym (ap₂ ◌&&◌ c.fits.ensures c.fits-2.ensures) ∙ c.if-not-room.false) (rw c.of-width.ensures at c.put.ensures)

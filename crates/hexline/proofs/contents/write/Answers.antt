use mathlib.Core.List.{◌∷◌}
use mathlib.Core.Path.{refl, sym, ◌∙◌}
use native.Mathlib.Omega.{arith}
use Rattle.common.proofs.AnswerLaws.{answers_invalid}
use Rattle.hexline.proofs.LineLaws.{body_put, refuses_line, writes_line}
use Rattle.hexline.proofs.contents.write.Goals as goal

pub returns-then-not-valid : goal.returns-then-not-valid
returns-then-not-valid g c = let t = g.T.Contents in refuses_line (t.valid_of c.args.contents) c.args.contents _ _ (answers_invalid c.valid.ensures _ c.if-not-valid.true) refl

pub returns : goal.returns
returns g c =
    let t = g.T.Contents in
    let room = g.met.T.Contents.fits_buffers in
    let put = c.append-n.ensures in
    let bytes = t.bytes c.args.contents in
    writes_line _ (t.KIND ∷ bytes) _ _ (sym c.valid.ensures ∙ c.if-not-valid.false)
    (rw c.front.ensures (body_put g.row.N t.KIND bytes put.short (rw c.KIND.ensures at put.written))) (omega (arith, room, put.short)) c.write.ensures

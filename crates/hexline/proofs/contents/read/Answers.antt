use Prim.Native.Nat.{ℕ}
use lib.ListN.{length-replicate}
use Rattle.frame.proofs.FrameLoops.{decoded_front}
use Rattle.hexline.proofs.LineLaws.{line_read}
use Rattle.hexline.proofs.contents.read.Goals as goal

pub returns : goal.returns
returns g c =
    let t = g.T.Contents in
    let line = c.args.line.now in
    let decoded = decoded_front line _ c.decode-n.ensures.value c.decode-n.ensures.out_after c.front.ensures in
    line_read t.form t.inside t.valid_of line g.row.N g.met.T.Contents.form_fits _ (rw (length-replicate {A = ℕ} g.row.N 0) at decoded) c.of_body.ensures

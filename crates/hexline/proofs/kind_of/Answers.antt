use mathlib.Core.List.{List}
use mathlib.Core.Path.{ap, ◌∙◌}
use Prim.Native.Nat.{ℕ}
use Rattle.frame.proofs.FrameLoops.{decoded_front}
use Rattle.label_codec.specs.Body.{byte_at}
use Rattle.hexline.specs.Line.{kind_numbered}
use Rattle.hexline.proofs.LineLaws.{kind_told}
use Rattle.hexline.proofs.kind_of.Goals as goal

pub returns : goal.returns
returns c =
    let line = c.args.line.now in
    c.try_from.ensures
    ∙ ap kind_numbered (c.byte.ensures ∙ ap (λ (bs : List ℕ). byte_at bs 0) (decoded_front line _ c.decode-n.ensures.value c.decode-n.ensures.out_after c.front.ensures))
    ∙ kind_told line

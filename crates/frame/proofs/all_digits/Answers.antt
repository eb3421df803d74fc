use Rattle.std.proofs.Common.{◌-◌, ◌&&◌, drop, length, ◌∙◌, ap, ap₂, arith, length-drop, take_all}
use Rattle.std.specs.List.{list_all}
use Rattle.frame.specs.Frame.{is_digit}
use Rattle.frame.proofs.FrameLoops.{all_cover}
use Rattle.frame.proofs.all_digits.Goals as goal

pub returns : goal.returns
returns c =
    let text = c.args.text.now in
    let n = length text in
    let last = take_all (n - (n - 8)) (drop (n - 8) text) (omega (arith, length-drop (n - 8) text)) in
    ap₂ ◌&&◌ c.digits-2.ensures (c.digits-3.ensures ∙ ap (list_all is_digit) last) ∙ all_cover is_digit text _ (n - 8) (omega arith)

use Rattle.std.proofs.Common.{rules, tests, Bool, true, ◌&&◌, ℕ, ◌∙◌}
use Rattle.std.proofs.lemmas.Iterator.{YieldsList-from_slice}
use Rattle.std.proofs.lemmas.Iterator.Consumers.{fold_from_yields_List}
use Rattle.frame.specs.Frame.{is_digit}
use Rattle.frame.proofs.FrameLoops.{all_folded}
use Rattle.frame.proofs.digits.Goals as goal

pub returns : goal.returns
returns c =
    let text = c.args.text.now in
    let h : Bool → ℕ → Bool = λ g x. g && is_digit x in
    fold_from_yields_List _ h true c.fold.result c.fold.ensures.ran (YieldsList-from_slice text cc) (λ a x b q k. search (rules, tests)) ∙ all_folded is_digit text

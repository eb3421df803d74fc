use Rattle.abi.proofs.OutcomeLaws.{call_applied}
use Rattle.lurmenize.proofs.state.lurm_close.Goals as goal

pub returns : goal.returns
returns c = call_applied c.args.state _ _ c.decided.ensures (λ _. c.apply.ensures.handed_back)

use Rattle.std.proofs.Common.{rules}
use Rattle.octets.proofs.ByteLaws.{then_put}
use Rattle.segments_cmd.specs.Answer.{shown_text}
use Rattle.segments_cmd.proofs.answer.put_shown.Goals as goal

pub returns : goal.returns
unfolding shown_text
returns c = record { put = then_put (search rules) c.put_numbers-at.ensures.put c.put_label.ensures.put; within = search rules }

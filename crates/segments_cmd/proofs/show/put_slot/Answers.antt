use Rattle.std.proofs.Common.{rules}
use Rattle.octets.proofs.ByteLaws.{then_appended, then_put}
use Rattle.segments_cmd.specs.Show.{slot_text}
use Rattle.segments_cmd.proofs.show.put_slot.Goals as goal

pub returns : goal.returns
unfolding slot_text
returns c = then_appended (search rules) (then_put (search rules) c.put_segment-at.ensures.put c.put_label-end.ensures.put) c.append.ensures

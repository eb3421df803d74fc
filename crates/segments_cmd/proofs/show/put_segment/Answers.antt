use Rattle.std.proofs.Common.{rules}
use Rattle.octets.proofs.ByteLaws.{then_put}
use Rattle.segments_cmd.specs.Show.{segment_text}
use Rattle.segments_cmd.proofs.show.put_segment.Goals as goal

pub returns : goal.returns
unfolding segment_text
returns c =
    let p = then_put (search rules) c.put_field-number.ensures.put c.put_field-pages.ensures.put in
    record { put = then_put (search rules) p c.put_field.ensures.put; within = search rules }

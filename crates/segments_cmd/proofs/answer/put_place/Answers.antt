use Rattle.std.proofs.Common.{rules}
use Rattle.octets.proofs.ByteLaws.{appended_put, then_put}
use Rattle.segments_cmd.specs.Answer.{place_text}
use Rattle.segments_cmd.proofs.answer.put_place.Goals as goal

pub returns : goal.returns
unfolding place_text
returns c =
    let q = appended_put (search rules) c.append.ensures in
    let e = q.past in record { put = then_put (search rules) c.put_field-at.ensures.put q; within = search rules }

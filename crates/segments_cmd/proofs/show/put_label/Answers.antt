use Rattle.std.proofs.Common.{rules, arith}
use Rattle.octets.proofs.ByteLaws.{appended_put, then_put}
use Rattle.segments_cmd.specs.Show.{label_numbers_text}
use Rattle.segments_cmd.proofs.show.put_label.Goals as goal

pub put_categories-requires : goal.put_categories-requires
put_categories-requires c =
    let q = appended_put (search rules) c.append-word.ensures in
    let e = q.past in omega arith

pub returns : goal.returns
unfolding label_numbers_text
returns c =
    let q = appended_put (search rules) c.append-word.ensures in
    let e = q.past in
    let p = then_put (search rules) c.put_field-hierarchy.ensures.put q in
    record { put = then_put (search rules) p c.put_categories.ensures.put; within = search rules }

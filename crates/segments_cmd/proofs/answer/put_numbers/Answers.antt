use Rattle.std.proofs.Common.{rules}
use Rattle.octets.proofs.ByteLaws.{appended_put, then_put}
use Rattle.segments_cmd.specs.Answer.{shown_numbers}
use Rattle.segments_cmd.proofs.answer.put_numbers.Goals as goal

pub returns : goal.returns
unfolding shown_numbers
returns c =
    let q = appended_put (search rules) c.append.ensures in
    let e = q.past in
    record {
      put = then_put (search rules) (then_put (search rules) c.put_field-pages.ensures.put c.put_field-version.ensures.put) q;
      within = search rules;
    }

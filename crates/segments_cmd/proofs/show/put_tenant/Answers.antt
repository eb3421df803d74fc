use Rattle.std.proofs.Common.{rules}
use Rattle.octets.proofs.ByteLaws.{then_appended, then_put}
use Rattle.segments_cmd.specs.Show.{tenant_text}
use Rattle.segments_cmd.proofs.show.put_tenant.Goals as goal

pub returns : goal.returns
unfolding tenant_text
returns c =
    let p = then_put (search rules) c.put_field-number.ensures.put c.put_field-limit.ensures.put in
    then_appended (search rules) (then_put (search rules) p c.put_field-used.ensures.put) c.append.ensures

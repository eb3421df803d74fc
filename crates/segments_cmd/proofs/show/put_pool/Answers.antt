use Rattle.std.proofs.Common.{rules}
use Rattle.octets.proofs.ByteLaws.{then_appended}
use Rattle.segments_cmd.specs.Show.{pool_text}
use Rattle.segments_cmd.proofs.show.put_pool.Goals as goal

pub returns : goal.returns
unfolding pool_text
returns c = then_appended (search rules) c.put_field-at.ensures.put c.append.ensures

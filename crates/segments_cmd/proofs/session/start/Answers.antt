use Rattle.std.proofs.Common.{rules}
use Rattle.segment_table.specs.Operator.{make_answer, make_of}
use Rattle.segments_cmd.proofs.CallLaws.{replied}
use Rattle.segments_cmd.proofs.session.start.Goals as goal

pub returns : goal.returns
unfolding make_of make_answer
returns c = search (rules, replied)

use Rattle.std.proofs.Common.{refl}
use Rattle.console.proofs.CommandLaws.{line_ended, line_invalid}
use Rattle.console.proofs.command.parse.Goals as goal

pub returns-then-end-line : goal.returns-then-end-line
returns-then-end-line c = line_invalid c.args.line.now c.index_of-end.result _ c.index_of-end.ensures c.if-end-line.true refl

pub returns : goal.returns
returns c = line_ended c.args.line.now c.index_of-end.result c.parse_body.result c.index_of-end.ensures c.if-end-line.false c.parse_body.ensures

use Rattle.std.proofs.Common.{◌^◌, ◌<◌, arith}
use Rattle.console.proofs.FieldLaws.{field_within}
use Rattle.segments_cmd.proofs.answer.put_field.Goals as goal

pub returns : goal.returns
returns c = let h : c.args.n < 2 ^ 64 = omega arith in field_within c.args.word.now c.args.n h c.requires c.append_field.ensures

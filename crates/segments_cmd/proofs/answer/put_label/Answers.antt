use Rattle.std.proofs.Common.{arith}
use Rattle.segments_cmd.proofs.PartLaws.{line_left, line_written, written_bytes}
use Rattle.segments_cmd.proofs.answer.put_label.Goals as goal

pub overflow_add-result : goal.overflow_add-result
overflow_add-result c =
    let w = c.write_label in
    let l = rw c.in-Ok.is at (written_bytes c.args.out.now c.args.at c.args.label c.requires w.result w.new.out w.ensures) in
    omega arith

pub returns-in-Ok : goal.returns-in-Ok
returns-in-Ok c =
    let w = c.write_label in
    line_written c.args.out.now c.args.at c.args.label c.requires w.result w.new.out w.ensures c.in-Ok.n c.in-Ok.is

pub returns-in-Err : goal.returns-in-Err
returns-in-Err c =
    let w = c.write_label in
    line_left c.args.out.now c.args.at c.args.label c.requires w.result w.new.out w.ensures _ c.in-Err.is

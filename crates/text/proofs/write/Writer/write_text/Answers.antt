use Rattle.std.proofs.Common.{refl}
use Rattle.std.proofs.lemmas.Result.{err_from_is_err_and}
use Rattle.text.proofs.RoomLaws.{nothing_written, text_written}
use Rattle.text.proofs.write.Writer.write_text.Goals as goal

pub returns-in_err-n : goal.returns-in_err-n
returns-in_err-n c =
    let p = err_from_is_err_and c.from_residual.result c.from_residual.ensures.1 in
    rw (p.1, p.2) (nothing_written c.measure_label.ensures _ _ c.room.ensures c.in_err-n.was refl)

pub returns : goal.returns
returns c = text_written c.measure_label.ensures _ _ c.room.ensures c.in_ok-n.was c.put_label.ensures

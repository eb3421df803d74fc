-- A bad table is refused first, then a label that may not be shown; else the answer is that of the table's entries (`table_next`, `allowed_next`).
use mathlib.Core.Path.{refl, ◌∙◌}
use Rattle.std.proofs.lemmas.Result.{err_from_is_err_and}
use Rattle.common.proofs.AnswerLaws.{grant_next, refused_next}
use Rattle.common.proofs.BufferLaws.{writes_nothing}
use Rattle.text.specs.Write.{write_label_of}
use Rattle.text.proofs.RoomLaws.{written_same}
use Rattle.text.proofs.SubjectLaws.{allowed_next, allowed_refused, table_next}
use Rattle.text.proofs.write.write_label.Goals as goal

pub returns-in_err-lines : goal.returns-in_err-lines
returns-in_err-lines c =
    let p = err_from_is_err_and c.from_residual.result c.from_residual.ensures.1 in
    rw (p.1, p.2) (writes_nothing _ _ _ _ (refused_next c.check.ensures _ c.in_err-lines.was) refl)

pub returns-in_err-allowed : goal.returns-in_err-allowed
unfolding write_label_of
returns-in_err-allowed c =
    let p = err_from_is_err_and c.from_residual-in_err-allowed.result c.from_residual-in_err-allowed.ensures.1 in
    rw (p.1, p.2) (writes_nothing _ _ _ _ (grant_next c.check.ensures _ c.in_ok-lines.was ∙ allowed_refused _ _ _ _ (rw c.valid.ensures at c.allowed.ensures) c.in_err-allowed.was) refl)

pub returns : goal.returns
unfolding write_label_of
returns c =
    let a = c.args in
    written_same c.write_text.ensures
    (table_next a.more a.table.now c.table.result c.check.ensures c.in_ok-lines.was c.table.ensures.bytes_value c.table.ensures.starts_value (λ es. write_label_of es a.caller a.style a.l)
    ∙ allowed_next _ _ _ _ (rw c.valid.ensures at c.allowed.ensures) c.in_ok-allowed.was)

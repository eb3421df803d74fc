-- A bad table is refused first, then a range whose low end may not be shown; else the answer is that of the table's entries, with both ends or the low
-- end alone (`shown_as`).
use mathlib.Core.Path.{◌≡◌, refl, ◌∙◌}
use Rattle.std.proofs.lemmas.Result.{err_from_is_err_and}
use Rattle.common.proofs.AnswerLaws.{grant_next, refused_next}
use Rattle.alias.specs.Lines.{table_entries}
use Rattle.text.specs.Internal.Measure.{range_named, range_text, status_of}
use Rattle.text.specs.Subject.{with_table}
use Rattle.text.specs.Write.{shown, write_range_of}
use Rattle.text.proofs.PartLaws.{range_shown}
use Rattle.text.proofs.RoomLaws.{range_refusal, range_refused_lem, range_same, range_written_lem}
use Rattle.text.proofs.SubjectLaws.{allowed_next, allowed_refused, table_next}
use Rattle.text.proofs.write.write_range.Goals.{After-write_ends}
use Rattle.text.proofs.write.write_range.Goals as goal

shown_as : (c : After-write_ends) → with_table c.args.more c.args.table.now (λ es. write_range_of es c.args.caller c.args.style c.args.x)
    ≡ shown (range_named (table_entries c.table.result) c.args.style c.args.x c.sees-whole.result) (status_of c.sees-whole.result)
    (range_text (table_entries c.table.result) c.args.style c.args.x c.sees-whole.result)
unfolding write_range_of
shown_as c =
    let a = c.args in
    table_next a.more a.table.now c.table.result c.check.ensures c.in_ok-lines.was c.table.ensures.bytes_value c.table.ensures.starts_value (λ es. write_range_of es a.caller a.style a.x)
    ∙ allowed_next _ _ _ _ (rw c.valid.ensures at c.allowed.ensures) c.in_ok-allowed.was
    ∙ rw (← c.sees-whole.ensures) (range_shown (table_entries c.table.result) a.style a.x c.sees-whole.result)

pub returns-in_err-lines : goal.returns-in_err-lines
returns-in_err-lines c =
    let p = err_from_is_err_and c.from_residual.result c.from_residual.ensures.1 in
    rw (p.1, p.2) (range_refusal _ _ _ _ (refused_next c.check.ensures _ c.in_err-lines.was) refl)

pub returns-in_err-allowed : goal.returns-in_err-allowed
unfolding write_range_of
returns-in_err-allowed c =
    let p = err_from_is_err_and c.from_residual-in_err-allowed.result c.from_residual-in_err-allowed.ensures.1 in
    rw (p.1, p.2) (range_refusal _ _ _ _ (grant_next c.check.ensures _ c.in_ok-lines.was ∙ allowed_refused _ _ _ _ (rw c.valid.ensures at c.allowed.ensures) c.in_err-allowed.was) refl)

pub returns-in_err-length : goal.returns-in_err-length
returns-in_err-length c =
    let p = err_from_is_err_and c.from_residual-in_err-length.result c.from_residual-in_err-length.ensures.1 in
    let s = shown_as (goal.at.returns-in_err-length c).After-write_ends in
    rw (p.1, p.2) (range_same (range_refused_lem _ _ (status_of c.sees-whole.result) c.write_ends.ensures c.in_err-length.was) s)

pub returns-then-whole : goal.returns-then-whole
returns-then-whole c =
    let s = shown_as (goal.at.returns-then-whole c).After-write_ends in
    rw c.if-whole.true at (range_same (range_written_lem _ _ (status_of c.sees-whole.result) c.write_ends.ensures c.in_ok-length.was) s)

pub returns-else-whole : goal.returns-else-whole
returns-else-whole c =
    let s = shown_as (goal.at.returns-else-whole c).After-write_ends in
    rw c.if-whole.false at (range_same (range_written_lem _ _ (status_of c.sees-whole.result) c.write_ends.ensures c.in_ok-length.was) s)

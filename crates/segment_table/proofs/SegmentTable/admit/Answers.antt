-- A tenant that is not admitted has a ceiling of 0, so that the pool's room for its ceiling is that for one more (`pool_new`).
use mathlib.Core.Bool.{Bool, true, not, ◌&&◌, and_assoc}
use mathlib.Core.Path.{◌≡◌, sym, ap, ◌∙◌}
use borrow.Author.Tests.{ltb-true, not-true}
use lib.Dec.{leb, ltb}
use Rattle.common.proofs.BoolLaws.{first_true}
use Rattle.range.specs.Tuple
use Rattle.segment_table.specs.Operator.{admit_answer, admit_of}
use Rattle.segment_table.specs.Segments.{tenant_total}
use Rattle.segment_table.proofs.OperatorLaws.{pool_new}
use Rattle.segment_table.proofs.ResultsLaws.{check_passed, results_same}
use Rattle.segment_table.proofs.SegmentTable.admit.Goals as goal

pub returns : goal.returns
unfolding admit_of admit_answer
returns c =
    let a = c.args in
    let s = a.self.now in
    let t : Bool = ltb a.tenant.0 tenant_total in
    let v : Bool = Tuple.valid_of a.x.clearance in
    let n : Bool = not (Tuple.empty_of a.x.clearance) in
    let h = sym c.sound.ensures ∙ check_passed _ _ c.in_ok-require.ensures in
    let e : ((t && v && n) && leb 1 a.x.ceiling) ≡ true =
    ap (λ (b : Bool). b && leb 1 a.x.ceiling) (and_assoc t v n ∙ sym (ap (λ (b : Bool). t && b) c.clearance_valid.ensures)) ∙ check_passed _ _ c.in_ok-require-2.ensures in
    let i = ltb-true a.tenant.0 tenant_total (first_true t v (first_true (t && v) n (first_true ((t && v) && n) (leb 1 a.x.ceiling) e))) in
    let f = sym c.admitted.ensures ∙ not-true c.admitted.result (check_passed _ _ c.in_ok-require-3.ensures) in
    results_same _ _ _ _ (rw (h, e, f) (pool_new _ _ _ i f)) c.set_record.ensures

use borrow.Author.Rules.{rules}
use mathlib.Core.Path.{◌≡◌, sym, ap, ◌∙◌}
use native.Mathlib.Omega.{arith}
use lib.ListN.{length}
use Rattle.segment_table.specs.Limits.{limit_left}
use Rattle.segment_table.specs.Segments.{no_tenant, tenant_total}
use Rattle.segment_table.specs.declared.Tenant.{Tenant}
use Rattle.segment_table.proofs.LimitLaws.{take_all, take_over}
use Rattle.segment_table.proofs.SlotsLaws.{ceilings_sum}
use Rattle.segment_table.proofs.SegmentTable.pool_left.Goals as goal

pub returns-in_err-left : goal.returns-in_err-left
returns-in_err-left c =
    let s = c.args.self.now in
    let n : length s.tenants ≡ tenant_total = search rules in
    c.from_residual.ensures
    ∙ sym (take_over (λ (x : Tenant). x.ceiling) s.tenants s.pool c.loop-x.x-index c.loop-x.left no_tenant (omega arith) (let h = c.in_err-left.ensures in omega (arith, h)) c.loop-x.invariant)
    ∙ ap (limit_left s.pool) (ceilings_sum s n)

pub returns : goal.returns
returns c =
    let s = c.args.self.now in
    let n : length s.tenants ≡ tenant_total = search rules in
    sym (take_all (λ (x : Tenant). x.ceiling) s.tenants s.pool c.loop-x.x-index c.loop-x.left (omega arith) c.loop-x.invariant)
    ∙ ap (limit_left s.pool) (ceilings_sum s n)

use borrow.Author.Rules.{rules}
use mathlib.Core.Bool.{Bool}
use mathlib.Core.Path.{◌∙◌}
use Prim.Native.Nat.{ℕ}
use borrow.Author.Tests.{lt-ltb}
use lib.Dec.{ltb}
use Rattle.std.specs.Prelude.{None, cond, is_some}
use Rattle.std.proofs.lemmas.Iterator.{YieldsList-from_slice}
use Rattle.std.proofs.lemmas.Iterator.Consumers.{YieldsList-from_enumerate}
use Rattle.std.proofs.lemmas.Iterator.Search.{all_from_yields_List}
use Rattle.segment_table.specs.Limits.{limit_left}
use Rattle.segment_table.specs.Segments.{ceiling_at, no_tenant, tenant_id, tenant_total}
use Rattle.segment_table.specs.Slots.{pages_of}
use Rattle.segment_table.specs.Sound.{under_ceiling}
use Rattle.segment_table.specs.declared.SegmentTable.{SegmentTable}
use Rattle.segment_table.specs.declared.Tenant.{Tenant}
use Rattle.segment_table.proofs.LimitLaws.{kept_exact}
use Rattle.common.proofs.ChainLaws.{every_indexed}
use Rattle.segment_table.proofs.SegmentTable.ceilings_kept.Goals as goal

-- what is asked of a record and its tenant's number
abbrev kept : SegmentTable → ℕ × Tenant → Bool
kept s p = is_some (cond (ltb p.0 tenant_total) (limit_left p.1.ceiling (pages_of s (tenant_id p.0))) None)

pub returns : goal.returns
unfolding under_ceiling
returns c =
    let s = c.args.self.now in
    all_from_yields_List (kept s) _ _ _ c.all.ensures.ran (YieldsList-from_enumerate (YieldsList-from_slice s.tenants (search rules)) (search rules)) (λ x b q k. search rules)
    ∙ every_indexed (kept s) (λ t. under_ceiling s (tenant_id t)) s.tenants tenant_total no_tenant (search rules)
    (λ i l. rw (lt-ltb i tenant_total l) (kept_exact (ceiling_at s (tenant_id i)) (pages_of s (tenant_id i))))

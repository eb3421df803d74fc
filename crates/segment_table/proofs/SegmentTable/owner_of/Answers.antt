use borrow.Author.Rules.{rules}
use mathlib.Core.Bool.{true, false}
use mathlib.Core.Path.{◌≡◌}
use Prim.Native.Nat.{ℕ, ◌≤◌, ◌<◌}
use Rattle.std.specs.Option.{MatchOption}
use Rattle.std.proofs.lemmas.Iterator.{first_from_Range}
use Rattle.segment_table.specs.Segments.{tenant_id, tenant_total}
use Rattle.segment_table.specs.Slots.{owns}
use Rattle.segment_table.proofs.SlotsLaws.{owned_by_none}
use Rattle.segment_table.proofs.SegmentTable.owner_of.Goals as goal
use Rattle.segment_table.proofs.SegmentTable.owner_of.Goals.{After-find}

-- what the search has found
found : (c : After-find) → let a = c.args in
    MatchOption c.find.result ((k : ℕ) → 0 ≤ k → k < tenant_total → owns a.self.now (tenant_id k) a.p ≡ false)
    (λ i. (0 ≤ i) × (i < tenant_total) × (owns a.self.now (tenant_id i) a.p ≡ true) × ((k : ℕ) → 0 ≤ k → k < i → owns a.self.now (tenant_id k) a.p ≡ false))
found c =
    let a = c.args in
    first_from_Range _ _ _ c.find.result (λ t. owns a.self.now (tenant_id t) a.p ≡ true) (λ t. owns a.self.now (tenant_id t) a.p ≡ false) c.find.ensures.ran
    (λ x q k. search rules) (λ x q k. search rules)

pub returns-in_err-t : goal.returns-in_err-t
returns-in_err-t c =
    let k = rw c.in_err-t.was at (found (goal.at.returns-in_err-t c).After-find) in
    rw c.from_residual.ensures (owned_by_none c.args.self.now c.args.p k)

pub returns : goal.returns
returns c =
    let k = rw c.in_ok-t.was at (found (goal.at.returns c).After-find) in
    (k.1, k.2)

use borrow.Author.Rules.{rules}
use mathlib.Core.Path.{◌≡◌, sym, ap, ◌∙◌}
use Prim.Native.Nat.{ℕ, ◌+◌}
use lib.ListN.{length}
use Rattle.std.specs.Option.{option_map}
use Rattle.std.specs.Prelude.{Some}
use Rattle.std.specs.declared.ops.Range.{Range}
use Rattle.std.proofs.lemmas.Iterator.{IsFirst-from_position, YieldsList-from_slice}
use Rattle.segment_table.specs.Segments.{slot, slot_total}
use Rattle.segment_table.specs.Slots.{first_slot, lowest_empty}
use Rattle.segment_table.specs.declared.Segment.{Segment}
use Rattle.segment_table.proofs.SlotsLaws.{lowest_outside, own_cases, own_unlent, search_lent}
use Rattle.segment_table.proofs.SegmentTable.lowest_empty.Goals as goal
use Rattle.segment_table.proofs.SegmentTable.lowest_empty.Goals.{After-position}

-- what the search has found
found : (c : After-position) → let a = c.args in option_map (λ k. slot ((first_slot a.self.now a.t).0 + k)) c.position.result ≡ lowest_empty a.self.now a.t
found c =
    let a = c.args in
    let n : length a.self.now.segments ≡ slot_total = search rules in
    search_lent a.self.now a.t c.in_ok-own_segments.field-0.now n (sym c.in_ok-own_segments.ensures) c.position.result
    (IsFirst-from_position _ _ c.position.result (λ (x : Segment). x.pages ≡ 0) (λ (x : Segment). x.pages ≡ 0 → ⊥) c.position.ensures.ran
    (YieldsList-from_slice _ (search rules)) (λ x q k. search rules) (λ x q k. search rules))

pub returns-in_err-own_segments : goal.returns-in_err-own_segments
returns-in_err-own_segments c = c.from_residual.ensures ∙ lowest_outside _ _ (own_unlent _ _ (sym c.in_err-own_segments.ensures))

pub returns-in_err-k : goal.returns-in_err-k
returns-in_err-k c =
    c.from_residual-in_err-k.ensures ∙ sym (ap (option_map _) c.in_err-k.was) ∙ found (goal.at.returns-in_err-k c).After-position

pub returns : goal.returns
returns c =
    let a = c.args in
    let h = own_cases a.self.now a.t _ c.in_ok-own_slots.field-0 (sym c.own_slots.ensures ∙ c.in_ok-own_slots.was) in
    ap (λ (r : Range ℕ). Some (slot (r.start + c.in_ok-k.k))) (sym h.1)
    ∙ sym (ap (option_map (λ k. slot ((first_slot a.self.now a.t).0 + k))) c.in_ok-k.was) ∙ found (goal.at.returns c).After-position

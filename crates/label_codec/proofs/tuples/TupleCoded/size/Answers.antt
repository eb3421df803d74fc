-- The sum of what each region has is what all have (`regions_summed`), and no more than three ranges.
use borrow.Author.Rules.{rules}
use mathlib.Core.Path.{◌≡◌, ◌∙◌}
use Prim.Native.Nat.{ℕ, ◌*◌, ◌≤◌}
use native.Mathlib.Omega.{arith}
use lib.ListN.{length}
use Rattle.std.proofs.lemmas.Iterator.{YieldsList-from_map, YieldsList-from_slice}
use Rattle.std.proofs.lemmas.Iterator.Consumers.{fits_by_from_yields_list, sum_by_from_yields_List}
use Rattle.label.specs.Region.{regions}
use Rattle.range.specs.declared.tuple.RegionRange.{RegionRange}
use Rattle.label_codec.specs.Body.{range_size}
use Rattle.label_codec.specs.Tuples.{region_bytes, regions_bytes}
use Rattle.label_codec.proofs.TupleBytesLaws.{regions_size, regions_summed}
use Rattle.label_codec.proofs.tuples.TupleCoded.size.Goals as goal

pub sum-requires-clause-fits : goal.sum-requires-clause-fits
sum-requires-clause-fits c =
    let t = c.args.self.now in
    let w = c.args.width.words in
    let h : RegionRange → ℕ = λ e. length (region_bytes w e) in
    let n : length t.ranges ≡ regions = search rules in
    let e = regions_summed w t n in
    let m : length (regions_bytes w t regions) ≤ 3 * range_size w = regions_size w t regions in
    let i = c.args.width.within in
    fits_by_from_yields_list h t.ranges _ _ (YieldsList-from_map _ h (YieldsList-from_slice t.ranges cc) c.map.ensures.closure (λ x r q k. search rules)) (omega arith)

total : (c : goal.After-sum) → c.sum.result ≡ length (regions_bytes c.args.width.words c.args.self.now regions)
total c =
    let t = c.args.self.now in
    let w = c.args.width.words in
    let h : RegionRange → ℕ = λ e. length (region_bytes w e) in
    sum_by_from_yields_List h t.ranges _ _ c.sum.ensures.ran (YieldsList-from_map _ h (YieldsList-from_slice t.ranges cc) c.map.ensures.closure (λ x r q k. search rules))
    ∙ regions_summed w t (search rules)

pub overflow_add-result : goal.overflow_add-result
overflow_add-result c =
    let e = total c in
    let m : length (regions_bytes c.args.width.words c.args.self.now regions) ≤ 3 * range_size c.args.width.words = regions_size c.args.width.words c.args.self.now regions in
    let i = c.args.width.within in
    record { fits = omega arith }

pub returns : goal.returns
returns c = let e = total c in omega arith

-- The byte of presence is put first; each turn puts the bytes of one region more (`regions_next`), for which there is room (`regions_room`).
use mathlib.Core.List.{◌∷◌, ◌++◌}
use mathlib.Core.Path.{◌≡◌}
use Prim.Native.Nat.{ℕ, ◌≤◌, ◌<◌, ◌+◌}
use native.Mathlib.Omega.{arith}
use lib.ListN.{length}
use Rattle.common.proofs.IndexLaws.{every_at}
use Rattle.label.specs.Region.{regions}
use Rattle.octets.proofs.ByteLaws.{both_put, one_put, second_fits}
use Rattle.range.specs.declared.tuple.Tuple.{Tuple}
use Rattle.range.specs.Tuple.{region_range_at}
use Rattle.label_codec.specs.Codec.{region_fits}
use Rattle.label_codec.specs.Tuples.{presence_of, region_bytes, regions_bytes, tuple_bytes}
use Rattle.label_codec.proofs.TupleBytesLaws.{regions_next, regions_room}
use Rattle.label_codec.proofs.tuples.TupleCoded.put.Goals as goal

-- there is room for one more region
room : (w at n : ℕ) (t : Tuple) (r : ℕ) → r < regions → at + length (tuple_bytes w t) ≤ n
    → at + length (presence_of t ∷ regions_bytes w t r ++ region_bytes w (region_range_at t r)) ≤ n
room w at n t r h l = let e = regions_room w t r h in omega (arith, l)

pub loop-e-init : goal.loop-e-init
unfolding regions_bytes
loop-e-init c = rw c.presence.ensures (one_put c.args.out.now c.args.at (presence_of c.args.self.now) (omega arith))

pub put-next-requires : goal.put-next-requires
put-next-requires c =
    let t = c.args.self.now in
    (second_fits c.loop-e.invariant _ (room _ _ _ t c.loop-e.e-index c.loop-e-test.true c.requires.0), every_at (λ k. region_fits (region_range_at t k)) regions c.loop-e.e-index c.requires.1 c.loop-e-test.true)

pub loop-e-preserved : goal.loop-e-preserved
loop-e-preserved c =
    let a = c.args in
    rw (regions_next a.width.words a.self.now c.loop-e.e-index) (both_put c.loop-e.invariant _ (room _ _ _ a.self.now c.loop-e.e-index c.loop-e-test.true c.requires.0) c.put-next.ensures)

pub returns : goal.returns
returns c = let e : c.loop-e.e-index ≡ regions = omega arith in rw e at c.loop-e.invariant

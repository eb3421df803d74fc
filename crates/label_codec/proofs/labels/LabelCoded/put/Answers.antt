-- The hierarchy is put first; each turn puts one word more of the set (`word_more`), and together they are the label's bytes (`label_put`).
use Prim.Native.Nat.{ℕ, ◌+◌}
use native.Mathlib.Omega.{arith}
use lib.ListN.{set, length-set, length-take}
use lib.Seq.{get_or-take}
use Rattle.common.specs.Index.{tabulate}
use Rattle.octets.proofs.ByteLaws.{nothing_put}
use Rattle.label_codec.proofs.BodyLaws.{label_length}
use Rattle.label_codec.proofs.BodyLoops.{label_put, word_more}
use Rattle.label_codec.proofs.labels.LabelCoded.put.Goals as goal

pub bounds-out-at : goal.bounds-out-at
bounds-out-at c = let n = label_length c.args.width.words c.args.self.now in omega arith

pub loop-w-init : goal.loop-w-init
unfolding tabulate
loop-w-init c = (omega arith, nothing_put _ _)

pub loop-w-preserved : goal.loop-w-preserved
loop-w-preserved c =
    let a = c.args in
    let l = a.self.now in
    let w = get_or-take a.width.words l.categories c.loop-w.w-index 0 (omega (arith, length-take {A = ℕ})) in
    (omega arith, word_more l.categories (set a.out.now a.at l.hierarchy) _ _ (a.at + 1) c.loop-w.w-index c.loop-w.next c.loop-w.invariant.0 (omega (arith, length-set {A = ℕ}, length-take {A = ℕ}, label_length a.width.words l)) w c.loop-w.invariant.1 c.put_word.ensures)

pub returns : goal.returns
returns c =
    let a = c.args in
    label_put a.out.now c.loop-w.out a.at a.width.words c.loop-w.w-index c.loop-w.next a.self.now (omega (arith, label_length a.width.words a.self.now)) (omega (arith, length-take {A = ℕ})) c.loop-w.invariant.1

pub put_word-requires : goal.put_word-requires
put_word-requires c = omega (arith, length-set {A = ℕ}, length-take {A = ℕ}, label_length c.args.width.words c.args.self.now)

-- The loop says whether one of the entries before entry k has a hash in common with it.
use borrow.Author.Rules.{rules}
use mathlib.Core.Bool.{Bool, ◌||◌}
use mathlib.Core.Path.{◌∙◌}
use Prim.Native.Nat.{ℕ}
use native.Mathlib.Omega.{arith}
use lib.ListN.{get_or, take}
use borrow.Author.Tests.{le-leb, lt-leb}
use Rattle.std.specs.List.{zip}
use Rattle.std.proofs.lemmas.Iterator.{YieldsList-from_slice, YieldsList-from_zip}
use Rattle.std.proofs.lemmas.Iterator.Consumers.{fold_from_yields_List}
use Rattle.alias.specs.Internal.Hash.{collide, collides_before}
use Rattle.alias.specs.Lines.{max_lines}
use Rattle.alias.proofs.ChainLaws.{some_folded}
use Rattle.alias.proofs.HashLaws.{some_pair}
use Rattle.alias.proofs.hash.Hashes.collides_before.Goals as goal

pub returns-then-k-ge-MAX_LINES : goal.returns-then-k-ge-MAX_LINES
unfolding collides_before
returns-then-k-ge-MAX_LINES c = rw (le-leb max_lines c.args.k c.if-k-ge-MAX_LINES.true)

pub returns : goal.returns
unfolding collides_before
returns c =
    let h = c.args.self.now in
    let k = c.args.k in
    let test = λ (p : ℕ × ℕ). collide p.0 p.1 (get_or h.names k 0) (get_or h.others k 0) in
    rw (lt-leb max_lines k c.if-k-ge-MAX_LINES.false)
    (fold_from_yields_List _ (λ (m : Bool) (p : ℕ × ℕ). m || test p) _ _ c.fold.ensures.ran (YieldsList-from_zip (YieldsList-from_slice (take k h.names) (search rules)) (YieldsList-from_slice (take k h.others) (search rules)))
    (λ a x b q k. search rules)
    ∙ some_folded test (zip (take k h.names) (take k h.others)) ∙ some_pair h k (search rules) (search rules) (omega arith))

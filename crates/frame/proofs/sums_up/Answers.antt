use Rattle.std.proofs.Common.{rules, ℕ, ◌+◌, ◌%◌, ◌≡◌, eqb, ap, ◌∙◌, arith}
use Rattle.std.specs.List.{fold}
use Rattle.std.proofs.iter.runs.Made.{chains}
use Rattle.frame.proofs.FrameLoops.{sum_folded}
use Rattle.frame.proofs.sums_up.Goals as goal

pub returns : goal.returns
returns c =
    let a = c.args in
    let e : c.fold.result ≡ fold (λ (n b : ℕ). (n + b) % 256) a.check a.bytes.now = search (rules, chains) in
    ap (λ (n : ℕ). eqb n 0) (e ∙ sum_folded a.bytes.now a.check (omega arith))

use Rattle.std.proofs.Common.{rules, tests, eqb, ℕ}
use Rattle.std.proofs.lemmas.Iterator.{YieldsList-from_slice}
use Rattle.std.proofs.lemmas.Iterator.Search.{position_from_yields_List}
use Rattle.octets.proofs.ByteLaws.{index_found}
use Rattle.octets.proofs.index_of.Goals as goal

pub returns : goal.returns
returns c =
    let a = c.args in
    let b : ℕ = a.b in
    index_found b a.xs.now
    (position_from_yields_List (λ x. eqb x b) _ _ c.position.result c.position.ensures.ran (YieldsList-from_slice a.xs.now cc) (λ x r q k. search (rules, tests)))
    c.unwrap_or.ensures

use borrow.Author.Rules.{rules}
use Prim.Native.Nat.{◌+◌}
use lib.Dec.{eqb}
use borrow.Author.Tests.{eq-eqb, ne_eqb}
use Rattle.frame.specs.Frame.{body_of}
use Rattle.label_codec.specs.Body.{byte_at}
use Rattle.alias.specs.Internal.Names.{span_is}
use Rattle.alias.proofs.ChainLaws.{every_found}
use Rattle.alias.proofs.names.matches.Goals.{then-s-n, else-s-n}
use Rattle.alias.proofs.names.matches.Goals as goal

pub returns : goal.returns
unfolding span_is
returns g c =
    let a = c.args in
    elim c.if-s-n.branch [
      | then-s-n w ↦ rw (w.result-is, eq-eqb a.s.length a.n w.if-s-n.true) (every_found (λ i. eqb (byte_at (body_of a.line.now) (a.s.at + i)) (g.f i)) _ (λ i b q k. search (rules, c.requires.1.1.1)) a.n _ _ w.all.ensures.ran)
      | else-s-n w ↦ rw (w.result-is, ne_eqb a.s.length a.n w.if-s-n.false)
    ]

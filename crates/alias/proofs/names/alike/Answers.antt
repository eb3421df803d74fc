use borrow.Author.Rules.{rules}
use mathlib.Core.Path.{sym, ap, ◌∙◌}
use Prim.Native.Nat.{ℕ, ◌+◌}
use native.Mathlib.Omega.{arith}
use Rattle.frame.specs.Frame.{body_of}
use Rattle.label_codec.specs.Body.{byte_at}
use Rattle.alias_entry.specs.Internal.Spans.{span_bytes}
use Rattle.hexline.proofs.StandingLaws.{span_at, span_length}
use Rattle.alias.specs.Internal.Names.{span_is}
use Rattle.alias.proofs.LookupLaws.{span_same}
use Rattle.alias.proofs.names.alike.Goals as goal

pub matches-requires : goal.matches-requires
matches-requires c κs within = search rules fits 3000

pub returns : goal.returns
returns c =
    let a = c.args in
    let other = body_of a.b.now in
    let f = λ (i : ℕ). byte_at other (a.t.at + i) in
    let n = span_length other a.t in
    c.matches.ensures ∙ ap (span_is (body_of a.a.now) a.s f) (sym n)
    ∙ span_same (body_of a.a.now) a.s f (span_bytes other a.t) (λ i l. sym (span_at other a.t i (omega arith)))

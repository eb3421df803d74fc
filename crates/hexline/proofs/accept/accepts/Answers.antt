-- A body without the form is refused; of one that has it, what is tested is whether the entry that stands there is valid (`body_judged`).
use mathlib.Core.Path.{sym, ◌∙◌}
use borrow.Author.Rules.{rules}
use Prim.Native.Nat.{◌<◌}
use Rattle.label_codec.specs.Body.{byte_at, line_words}
use Rattle.hexline.proofs.AcceptLaws.{body_judged}
use Rattle.hexline.proofs.accept.accepts.Goals as goal

pub formed-requires : goal.formed-requires
formed-requires c = (c.layout_in-p.ensures.value, search rules)

pub returns-then-not-formed : goal.returns-then-not-formed
returns-then-not-formed c = rw (sym c.formed.ensures ∙ c.if-not-formed.true)

pub returns : goal.returns
returns c =
    let bs = c.args.body.now in
    let form = (sym c.formed.ensures ∙ c.if-not-formed.false) in
    let fits : c.byte.result < 256 = search rules in
    let small : byte_at bs 2 < 256 = rw c.byte.ensures at fits in
    rw (
      form,
      body_judged 4 line_words bs small form,
      c.text_ok-2.ensures,
      c.text_ok.ensures,
      c.value_ok.ensures,
      c.byte.ensures,
      c.rest-a.ensures,
      c.front-n.ensures,
      c.rest.ensures,
      c.layout_in-p.ensures.value,
    )

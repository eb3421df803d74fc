use mathlib.Core.List.{List}
use mathlib.Core.Path.{ap, ◌∙◌}
use Prim.Native.Nat.{ℕ, ◌+◌}
use borrow.Author.Tests.{eq-eqb}
use Rattle.common.specs.Index.{tabulate}
use Rattle.frame.specs.Frame.{body_of}
use Rattle.label_codec.specs.Body.{byte_at, label_at, label_size, line_words}
use Rattle.alias_entry.specs.Entry.{entry_from, label_from, layout_of}
use Rattle.hexline.specs.Line.{standing_in}
use Rattle.label_codec.proofs.BodyLoops.{copied_at, moved_label}
use Rattle.hexline.proofs.parts.label.Goals as goal

pub returns-then-byte-eq3 : goal.returns-then-byte-eq3
unfolding standing_in entry_from layout_of label_from
returns-then-byte-eq3 c =
    let line = c.args.line.now in
    let bs = tabulate (λ i. byte_at (body_of line) (2 + i)) (label_size line_words) in
    rw (← c.byte.ensures, eq-eqb _ _ c.if-byte-eq3.true)
    (c.label_at.ensures ∙ ap (λ (xs : List ℕ). label_at line_words xs 0) c.bytes_from.ensures
    ∙ moved_label line_words bs (body_of line) 0 2 (copied_at (body_of line) 2 (label_size line_words)))

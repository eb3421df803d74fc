use borrow.Author.Rules.{rules}
use mathlib.Core.Path.{sym, ap, ◌∙◌}
use native.Mathlib.Omega.{arith}
use Rattle.common.proofs.SearchLaws.{any_same}
use Rattle.hexline.specs.Line.{standing_in}
use Rattle.octets.specs.Lines.{line_at}
use Rattle.alias.specs.Lines.{entry_at, lines_by, table_entries}
use Rattle.alias.specs.Table.{shares_of}
use Rattle.alias.proofs.LookupLaws.{entries_at, of_line, same_test, shares_at}
use Rattle.alias.proofs.ChainLaws.{some_found}
use Rattle.alias.proofs.repeats.shared_before.Goals as goal

pub returns : goal.returns
returns c =
    let t = c.args.table in
    let k = c.args.k in
    let own = standing_in (line_at (lines_by t.bytes.now t.starts.now) k) in
    some_found (of_line t (λ e. shares_of e own)) _ (λ j b q e. search rules) k _ _ c.any.ensures.ran
    ∙ any_same _ (shares_at (table_entries t) k) k
    (λ j l. same_test t (λ e. shares_of e own) j (omega arith) ∙ ap (shares_of (entry_at (table_entries t) j)) (sym (entries_at t.bytes.now t.starts.now k c.requires)))

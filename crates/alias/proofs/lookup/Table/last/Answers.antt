use borrow.Author.Rules.{rules}
use mathlib.Core.Path.{◌∙◌}
use Rattle.alias.specs.Lookup.{last_entry_for, stands_for}
use Rattle.alias.proofs.LookupLaws.{last_entry, of_line}
use Rattle.alias.proofs.ChainLaws.{last_found}
use Rattle.alias.proofs.lookup.Table.last.Goals as goal

pub returns : goal.returns
unfolding last_entry_for
returns c =
    let a = c.args in
    last_found (of_line a.self (stands_for a.v a.l)) _ (λ k b q e. search rules) c.count.result _ _ _ c.rev.ensures.source c.find.ensures.ran ∙ last_entry a.self (stands_for a.v a.l) c.count.result c.count.ensures

use borrow.Author.Rules.{rules}
use mathlib.Core.Path.{◌∙◌}
use Rattle.alias.specs.Lookup.{next_entry_for, stands_for}
use Rattle.alias.proofs.LookupLaws.{first_entry, of_line}
use Rattle.alias.proofs.ChainLaws.{first_found}
use Rattle.alias.proofs.lookup.Table.next.Goals as goal

pub returns : goal.returns
unfolding next_entry_for
returns c =
    let a = c.args in
    first_found (of_line a.self (stands_for a.v a.l)) _ (λ k b q e. search rules) _ _ _ c.find.ensures.ran ∙ first_entry a.self (stands_for a.v a.l) a.from c.count.result c.count.ensures

use borrow.Author.Rules.{rules}
use mathlib.Core.Path.{◌∙◌}
use Rattle.alias.specs.Lookup.{called_of, find_of}
use Rattle.alias.proofs.LookupLaws.{find_entry, of_line}
use Rattle.alias.proofs.ChainLaws.{first_found}
use Rattle.alias.proofs.lookup.Table.find.Goals as goal

pub returns : goal.returns
unfolding find_of
returns c =
    let t = c.args.self in
    first_found (of_line t (λ e. called_of e c.args.text.now)) _ (λ k b q e. search rules) _ _ _ c.find.ensures.ran
    ∙ find_entry t (λ e. called_of e c.args.text.now) c.count.result c.count.ensures

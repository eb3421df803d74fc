use borrow.Author.Rules.{rules}
use mathlib.Core.Path.{◌≡◌, ◌∙◌}
use Rattle.alias_entry.specs.declared.Value.TheVariants.{WholeLabel}
use Rattle.alias.specs.Lookup.{same_value, stands_for}
use Rattle.alias.proofs.LookupLaws.{equal_values, other_values}
use Rattle.alias.proofs.names.stands_for.Goals as goal

pub returns-then-ne : goal.returns-then-ne
unfolding stands_for
returns-then-ne c =
    let e : c.value.result ≡ c.args.v = search rules in
    let d : c.args.v ≡ WholeLabel → ⊥ = search rules in
    c.if-ne.true ∙ rw (← c.value.ensures, e) (equal_values c.args.v _ c.args.l.now d)

pub returns-else-ne : goal.returns-else-ne
unfolding stands_for same_value
returns-else-ne c =
    let e : c.value.result ≡ c.args.v = search rules in
    let d : c.args.v ≡ WholeLabel = search rules in
    rw (← c.value.ensures, e, d, c.has_label.ensures)

pub returns-else-eq : goal.returns-else-eq
unfolding stands_for
returns-else-eq c =
    let d : c.value.result ≡ c.args.v → ⊥ = search rules in
    c.if-eq.false ∙ rw (← c.value.ensures) (other_values _ _ _ _ d)

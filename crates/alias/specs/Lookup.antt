-- Document 01, "Names and text": the entry for a name, and the entries for a hierarchy, a category or a label.
use Rattle.std.specs.Prelude.{Bool, false, ◌&&◌, ◌||◌, List, ℕ, ◌-◌, eqb, leb, length, Option}
use Rattle.common.specs.Index.{first_from, last_below}
use Rattle.label.specs.Label
use Rattle.label.specs.declared.Label.{Label}
use Rattle.octets.specs.Bytes.{same_bytes}
use Rattle.alias_entry.specs.Entry.{abbreviation_bytes, name_bytes}
use Rattle.alias_entry.specs.declared.Entry.{Entry}
use Rattle.alias_entry.specs.declared.Value.{Value}
use Rattle.alias_entry.specs.declared.Value.TheVariants.{Hierarchy, Category, WholeLabel}
use Rattle.alias.specs.Lines.{entry_at}

-- whether an entry has a name for its value: its name, or its abbreviation where that is not empty
unfoldable pub called_of : Entry → List ℕ → Bool
called_of e text = same_bytes (name_bytes e) text || (leb 1 (length (abbreviation_bytes e)) && same_bytes (abbreviation_bytes e) text)

-- whether two values, each with the label beside it, are the same
unfoldable pub same_value : Value → Label → Value → Label → Bool
same_value (Hierarchy h) l (Hierarchy g) m = eqb h g
same_value (Hierarchy h) l (Category d) m = false
same_value (Hierarchy h) l WholeLabel m = false
same_value (Category c) l (Hierarchy g) m = false
same_value (Category c) l (Category d) m = eqb c d
same_value (Category c) l WholeLabel m = false
same_value WholeLabel l (Hierarchy g) m = false
same_value WholeLabel l (Category d) m = false
same_value WholeLabel l WholeLabel m = Label.equal_of l m

-- whether an entry stands for a value
unfoldable pub stands_for : Value → Label → Entry → Bool
stands_for v l e = same_value e.value e.label v l

-- the entry that a text names
unfoldable pub find_of : List Entry → List ℕ → Option ℕ
find_of es text = first_from (λ k. called_of (entry_at es k) text) 0 (length es)

-- from an entry on, the next that stands for a value
unfoldable pub next_entry_for : List Entry → Value → Label → ℕ → Option ℕ
next_entry_for es v l from = first_from (λ k. stands_for v l (entry_at es k)) from (length es - from)

-- the last that stands for a value
unfoldable pub last_entry_for : List Entry → Value → Label → Option ℕ
last_entry_for es v l = last_below (λ k. stands_for v l (entry_at es k)) (length es)

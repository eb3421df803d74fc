use mathlib.Core.Path.{◌≡◌}
use lib.Dec.{eqb}
use Rattle.std.specs.List.{slice_split}
use lib.ListN.{drop, length}
use Rattle.octets.specs.Bytes.{split}
use Rattle.alias.specs.Lines.{table_entries}
use Rattle.text.specs.Read.{categories_read, no_categories}
use Rattle.text.specs.Write.{comma}
use Rattle.text.proofs.read.Reader.read_categories.Given as goal

abbrev pub invariant-loop-name : goal.invariant-loop-name
invariant-loop-name l =
    let all = slice_split (λ b. eqb b comma) l.names in
    categories_read (table_entries l.self.table) no_categories (split comma l.names) ≡ categories_read (table_entries l.self.table) l.set (drop (length l.yielded) all)

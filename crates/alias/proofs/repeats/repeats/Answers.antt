-- An entry that may have no name in common with an earlier one, by its hashes, has none.
use mathlib.Core.Path.{◌≡◌, sym, ◌∙◌}
use Prim.Native.Nat.{◌-◌}
use lib.ListN.{length}
use Rattle.common.specs.Index.{some_below}
use Rattle.alias.specs.Lines.{table_entries}
use Rattle.alias.specs.Table.{repeats_at}
use Rattle.alias.proofs.HashLaws.{no_collision}
use Rattle.alias.proofs.LookupLaws.{entries_at, shares_at}
use Rattle.alias.proofs.repeats.repeats.Goals.{else-collides_before, then-collides_before}
use Rattle.alias.proofs.repeats.repeats.Goals as goal

pub returns : goal.returns
unfolding repeats_at
returns c =
    let t = c.args.table in
    let k = c.args.k in
    let shared : c.if-collides_before.result ≡ some_below (shares_at (table_entries t) k) k =
    elim c.if-collides_before.branch [
      | then-collides_before w ↦ w.result-is ∙ w.shared_before.ensures
      | else-collides_before w ↦ w.result-is ∙ w.if-collides_before.false
          ∙ sym (no_collision (length t.starts.now - 1) c.requires.hashes k c.requires.k_in_bounds (sym c.collides_before.ensures ∙ w.if-collides_before.false))
    ] in
    rw (← shared, entries_at t.bytes.now t.starts.now k c.requires.k_in_bounds, ← c.line.ensures, ← c.repeats_itself.ensures)

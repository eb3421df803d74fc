use borrow.Author.Rules.{rules}
use mathlib.Core.Path.{◌∙◌}
use Prim.Native.Nat.{◌-◌}
use lib.ListN.{length}
use Rattle.alias.specs.Lines.{table_entries}
use Rattle.alias.specs.Table.{repeats_at}
use Rattle.alias.specs.Internal.Walk.{first_repeat}
use Rattle.alias.proofs.HashLaws.{none_collide}
use Rattle.alias.proofs.LookupLaws.{entries_length, search_start}
use Rattle.alias.proofs.ChainLaws.{first_found}
use Rattle.alias.proofs.repeats.first.Goals as goal

-- Where the hashes leave nothing open there is no repeat.
pub returns-then-not-some_collide : goal.returns-then-not-some_collide
returns-then-not-some_collide c =
    let t = c.args.table in
    none_collide (table_entries t) (length t.starts.now - 1) (entries_length t.bytes.now t.starts.now) c.requires c.if-not-hashes.true
    (rw c.count-n.ensures at (c.some_collide.ensures c.if-not-some_collide.true))

pub returns : goal.returns
unfolding first_repeat
returns c =
    let t = c.args.table in
    first_found (repeats_at (table_entries t)) _ (λ k b q e. search rules) _ _ _ c.find.ensures.ran
    ∙ search_start t.bytes.now t.starts.now (repeats_at (table_entries t)) c.count-n.ensures

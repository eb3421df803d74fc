use borrow.Author.Rules.{rules}
use mathlib.Core.Bool.{Bool, ◌&&◌}
use mathlib.Core.Path.{◌∙◌}
use Prim.Native.Nat.{ℕ}
use Rattle.std.proofs.lemmas.Iterator.{YieldsList-from_slice}
use Rattle.std.proofs.lemmas.Iterator.Consumers.{fold_from_yields_List}
use Rattle.alias_entry.specs.Entry.{is_name_byte}
use Rattle.alias_entry.proofs.EntryLaws.{all_folded}
use Rattle.alias_entry.proofs.all_of_name.Goals as goal

pub returns : goal.returns
returns c =
    let bs = c.args.text.now in
    fold_from_yields_List _ (λ (t : Bool) (x : ℕ). t && is_name_byte x) _ _ c.fold.ensures.ran (YieldsList-from_slice bs cc) (λ a x b q k. search rules)
    ∙ all_folded is_name_byte bs

use borrow.Author.Rules.{rules}
use mathlib.Core.Bool.{Bool, true, ◌&&◌}
use mathlib.Core.Path.{refl, ◌∙◌}
use Prim.Native.Nat.{ℕ}
use lib.ListN.{length}
use Rattle.std.proofs.lemmas.Iterator.{YieldsList-from_slice}
use Rattle.std.proofs.lemmas.Iterator.Consumers.{YieldsList-from_enumerate, fold_from_yields_List}
use Rattle.common.proofs.ChainLaws.{every_indexed}
use Rattle.alias_entry.specs.Entry.{name_byte_at, name_byte_ok}
use Rattle.alias_entry.proofs.EntryLaws.{folded_all}
use Rattle.alias_entry.proofs.all_name_bytes.Goals as goal

pub returns : goal.returns
returns c =
    let bs = c.args.bytes.now in
    let n = c.args.n in
    let ok : ℕ × ℕ → Bool = λ (p : ℕ × ℕ). name_byte_ok n p.0 p.1 in
    fold_from_yields_List _ (λ (t : Bool) (p : ℕ × ℕ). t && ok p) _ _ c.fold.ensures.ran (YieldsList-from_enumerate (YieldsList-from_slice bs cc) (cc)) (λ a x b q k. search rules)
    ∙ folded_all ok true _
    ∙ every_indexed ok (name_byte_at bs n) bs (length bs) 0 refl (λ i l. refl)

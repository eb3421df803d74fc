use borrow.Author.Rules.{rules}
use mathlib.Core.Path.{◌≡◌, sym, ap, ◌∙◌}
use Prim.Native.Nat.{ℕ, ◌+◌}
use native.Mathlib.Omega.{arith}
use lib.ListN.{length}
use Rattle.label_codec.specs.Codec.{width}
use Rattle.alias_entry.specs.Entry.{abbreviation_size, name_size, value_size}
use Rattle.alias_entry.proofs.EntryLaws.{entry_long, fitting}
use Rattle.alias_entry.proofs.Entry.size.Goals as goal

pub returns : goal.returns
returns c =
    let e = c.args.self.now in
    let f = fitting e c.requires in
    -- the arrays of an entry's texts are full
    let l : (length e.name.bytes ≡ name_size) × (length e.abbreviation.bytes ≡ abbreviation_size) = (search rules, search rules) in
    ap (λ (k : ℕ). 1 + k + (1 + e.name.length) + (1 + e.abbreviation.length)) (c.value_size.ensures.value ∙ ap (value_size (width c.args.words)) c.class.ensures)
    ∙ sym (entry_long (width c.args.words) e (omega (arith, f.name)) (omega (arith, f.abbreviation)))

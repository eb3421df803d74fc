use borrow.Author.Rules.{rules}
use Prim.Native.Nat.{ℕ}
use mir.Syntax.{w64, w8}
use mir.Val.{Fits}
use Rattle.label.specs.Words.{word_at}
use Rattle.label_codec.specs.Body.{byte_at}
use Rattle.alias_entry.proofs.typed.Statement.{statement}
use Rattle.alias_entry.proofs.typed.Tie as tie

returns : tie.Need-returns
returns c =
    let word : (i : ℕ) → Fits w64 (word_at c.args.e.label.categories i) = λ i. search rules in
    let name : (i : ℕ) → Fits w8 (byte_at c.args.e.name.bytes i) = λ i. search rules in
    let abbreviation : (i : ℕ) → Fits w8 (byte_at c.args.e.abbreviation.bytes i) = λ i. search rules in
    record {
      label = record { hierarchy = search rules; length_is = search rules; word = λ i. (word i).fits };
      name_has_size = search rules;
      name_byte = λ i. (name i).fits;
      abbreviation_has_size = search rules;
      abbreviation_byte = λ i. (abbreviation i).fits;
    }

pub typed_spec : {M : Type 1} → statement M
typed_spec = tie.close (tie.spec returns)

use borrow.Author.Rules.{rules}
use mathlib.Core.Path.{refl, ◌∙◌}
use Prim.Native.Nat.{ℕ}
use lib.Bits.{bit_and}
use lib.Dec.{eqb}
use Rattle.std.specs.List.{zip}
use Rattle.std.proofs.lemmas.Iterator.{YieldsList-from_slice, YieldsList-from_zip}
use Rattle.common.proofs.ChainLaws.{all_run, every_pair}
use Rattle.label.specs.Words.{includes_at, words}
use Rattle.label.proofs.WordLaws.{includes_is}
use Rattle.label.proofs.words.includes.Goals as goal

pub returns : goal.returns
returns c =
    all_run c.all.new.self _ (λ (p : ℕ × ℕ). eqb (bit_and p.0 p.1) p.1) (zip c.args.a c.args.b) c.all.ensures.ran
    (YieldsList-from_zip (YieldsList-from_slice c.args.a (search rules)) (YieldsList-from_slice c.args.b (search rules))) (λ x r q k. search rules)
    ∙ every_pair _ (includes_at c.args.a c.args.b) c.args.a c.args.b words 0 0 (search rules) (search rules) (λ i l. refl)
    ∙ includes_is c.args.a c.args.b words (search rules) (search rules)

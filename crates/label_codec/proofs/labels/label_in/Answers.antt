use borrow.Author.Rules.{rules}
use mathlib.Core.Path.{ap₂}
use Prim.Native.Nat.{◌+◌}
use Rattle.label.specs.Label.{label_of}
use Rattle.common.proofs.ChainLaws.{tabulate_made}
use Rattle.label_codec.specs.Body.{label_at, word_from}
use Rattle.label_codec.proofs.labels.label_in.Goals as goal

pub returns : goal.returns
unfolding label_at
returns c =
    let a = c.args in
    ap₂ label_of c.from.ensures (tabulate_made (word_from a.words a.bytes.now (0 + 1)) 0 (λ i y t l k. search rules) c.from_fn.ensures.items)

use mathlib.Core.List.{List}
use mathlib.Core.Path.{ap, ap₂, ◌∙◌}
use Prim.Native.Nat.{ℕ}
use native.Mathlib.Omega.{arith}
use lib.ListN.{drop}
use Rattle.range.specs.Range.{range_of}
use Rattle.label_codec.specs.Body.{label_at, range_at}
use Rattle.label_codec.specs.Codec.{width}
use Rattle.label_codec.proofs.BodyLoops.{rest_same, same_range}
use Rattle.label_codec.proofs.labels.range_at.Goals as goal

pub returns : goal.returns
unfolding range_at
returns c =
    let a = c.args in
    let w = width a.words in
    ap₂ range_of (c.label_at.ensures ∙ ap (λ (xs : List ℕ). label_at w xs 0) c.rest-own.ensures)
    (c.label_at-2.ensures ∙ ap₂ (label_at w) c.rest-own.ensures (c.label_size.ensures.value ∙ omega arith))
    ∙ same_range (drop a.at a.bytes.now) a.bytes.now w 0 a.at (rest_same a.bytes.now a.at)

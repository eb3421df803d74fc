use mathlib.Core.List.{List}
use mathlib.Core.Path.{ap, ap₂, ◌∙◌}
use Prim.Native.Nat.{ℕ, ◌+◌, ◌*◌}
use native.Mathlib.Omega.{arith}
use lib.ListN.{drop}
use Rattle.label.specs.Words.{words as set_words}
use Rattle.label_codec.specs.Body.{label_at}
use Rattle.label_codec.specs.Codec.{width}
use Rattle.label_codec.proofs.BodyLoops.{padded, padded_label, rest_same, same_label}
use Rattle.label_codec.proofs.labels.label_at.Goals as goal

pub returns-then-label_size-own : goal.returns-then-label_size-own
returns-then-label_size-own c =
    let a = c.args in
    let bs = a.bytes.now in
    c.label_in.ensures ∙ ap₂ (λ (n : ℕ) (xs : List ℕ). label_at n xs 0) c.of-width.ensures c.rest-own.ensures
    ∙ same_label (drop a.at bs) bs (width a.words) 0 a.at (rest_same bs a.at)

pub returns : goal.returns
returns c =
    let a = c.args in
    let bs = a.bytes.now in
    let m = c.of-width.result.within in
    c.label_in-2.ensures
    ∙ ap (λ (xs : List ℕ). label_at c.of-width.result.words xs 0) (padded _ (1 + 8 * set_words) c.copy_from_slice.ensures.after (omega arith))
    ∙ padded_label c.of-width.result.words _ (1 + 8 * set_words) (omega arith)
    ∙ ap₂ (λ (n : ℕ) (xs : List ℕ). label_at n xs 0) c.of-width.ensures c.rest-own.ensures
    ∙ same_label (drop a.at bs) bs (width a.words) 0 a.at (rest_same bs a.at)

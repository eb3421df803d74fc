-- An array is made of the regions of the bytes past the index; a tuple is the same where its bytes are (`same_tuple`).
use borrow.Author.Rules.{rules}
use mathlib.Core.List.{List}
use mathlib.Core.Path.{ap, ap₂, ◌∙◌}
use Prim.Native.Nat.{ℕ, ◌+◌}
use lib.ListN.{drop}
use Rattle.common.proofs.ChainLaws.{tabulate_made}
use Rattle.range.specs.Tuple.{absent, tuple_of}
use Rattle.label_codec.specs.Body.{byte_at}
use Rattle.label_codec.specs.Codec.{width}
use Rattle.label_codec.specs.Tuples.{region_at, tuple_at}
use Rattle.label_codec.proofs.BodyLoops.{rest_same, same_first, same_later}
use Rattle.label_codec.proofs.TupleBytesLaws.{same_tuple}
use Rattle.label_codec.proofs.tuples.tuple_at.Goals as goal

pub returns : goal.returns
unfolding tuple_at
returns c =
    let a = c.args in
    let bs = a.bytes.now in
    let own = drop a.at bs in
    let w = width a.words in
    let e = c.rest-own.ensures in
    let p = c.byte-p.ensures ∙ ap (λ (xs : List ℕ). byte_at xs 0) e ∙ same_first own bs 0 a.at (rest_same bs a.at) in
    ap tuple_of (tabulate_made (region_at w c.rest-own.result.now c.byte-p.result (0 + 1)) absent (λ i y t l k. search rules) c.from_fn.ensures.items)
    ∙ ap₂ (λ (xs : List ℕ) (q : ℕ). tuple_at w xs q (0 + 1)) e p
    ∙ same_tuple w own bs (byte_at bs a.at) (0 + 1) (a.at + 1) (same_later own bs 0 a.at 1 (rest_same bs a.at))

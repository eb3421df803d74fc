use mathlib.Core.Path.{◌≡◌, ap, ◌∙◌}
use borrow.Author.Rules.{rules}
use lib.ListN.{length}
use Rattle.std.specs.List.{fold}
use Rattle.std.proofs.iter.runs.Made.{chains}
use Rattle.alias.specs.Internal.Hash.{folded_hash, hash_of, next_hash}
use Rattle.alias.proofs.HashLaws.{hash_folded}
use Rattle.alias.proofs.hash.hash_of.Goals as goal

pub returns : goal.returns
unfolding hash_of
returns c =
    let bs = c.args.bytes.now in
    let e : c.fold.result ≡ fold next_hash (length bs) bs = search (rules, chains) in
    c.folded.ensures ∙ ap folded_hash (e ∙ hash_folded (length bs) bs)

use borrow.Author.Rules.{rules}
use mathlib.Core.List.{reverse}
use mathlib.Core.Path.{◌≡◌, ◌∙◌}
use Rattle.std.specs.List.{fold}
use Rattle.std.proofs.iter.runs.Made.{chains}
use Rattle.label_codec.proofs.TupleBytesLaws.{presence_folded, with_bit}
use Rattle.label_codec.proofs.tuples.presence.Goals as goal

pub returns : goal.returns
returns c =
    let t = c.args.t.now in
    let h : c.fold.result ≡ fold with_bit 0 (reverse t.ranges) = search (rules, chains) in h ∙ presence_folded t.ranges (search rules)

use borrow.Author.Rules.{rules}
use mathlib.Core.Path.{◌≡◌, refl, sym, ap, ◌∙◌}
use Rattle.std.specs.Prelude.{Err}
use Rattle.common.specs.declared.errno.Errno.TheVariants.{BadLine}
use Rattle.common.specs.Answer.{answer_of}
use Rattle.alias.proofs.WalkLaws.{check_granted, check_repeat, check_stopped, walk_hashes, walked, walked_repeat}
use Rattle.alias.proofs.check.Goals as goal

pub first-requires : goal.first-requires
first-requires c =
    let w = walked c.walk-walked.result c.walk-walked.ensures.walks in
    rw (c.table.ensures.bytes_value, c.table.ensures.starts_value) (walk_hashes w.1 c.walk-walked.ensures.hashes_kept)

pub returns-in-Some : goal.returns-in-Some
returns-in-Some c =
    let w = walked c.walk-walked.result c.walk-walked.ensures.walks in
    let t = c.table.ensures in
    sym (check_repeat w.1 (walked_repeat w.1 c.table.result t.bytes_value t.starts_value (sym c.in-Some.is ∙ c.first.ensures)))

pub returns-in_err-walked : goal.returns-in_err-walked
returns-in_err-walked c =
    let w = c.in_err-walked.ensures.walks in
    let t = c.table.ensures in
    let e : c.from_residual.result ≡ Err (BadLine c.walk-walked.new.lines.count) = search rules in
    ap answer_of e ∙ sym (check_stopped w.1 refl (walked_repeat w.1 c.table.result t.bytes_value t.starts_value (sym c.in_default.is ∙ c.first.ensures)))

pub returns : goal.returns
returns c =
    let w = c.in_ok-walked.ensures.walks in
    let t = c.table.ensures in
    sym (check_granted w refl (walked_repeat w c.table.result t.bytes_value t.starts_value (sym c.in_default.is ∙ c.first.ensures)))

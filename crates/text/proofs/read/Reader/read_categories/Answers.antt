-- Each turn has the next piece of the list that the library cuts (`piece`), whose category is added (`read_next`); at the end none is left (`read_end`).
use Rattle.std.proofs.Common.{rules, tests, sym, eqb, ◌≡◌, ◌∙◌, ◌+◌, drop, length, List, ℕ}
use Rattle.std.specs.List.{slice_split}
use Rattle.std.proofs.lemmas.List.{length_push}
use Rattle.std.proofs.lemmas.Result.{err_from_is_err_and}
use Rattle.std.proofs.lemmas.Iterator.Consumers.{YieldsList-at, YieldsList-end, YieldsList-turn}
use Rattle.std.proofs.lemmas.Iterator.Splits.{YieldsList-from_slice_split}
use Rattle.common.specs.Answer.{and_then}
use Rattle.common.proofs.AnswerLaws.{grant_next, refused_next}
use Rattle.octets.specs.Bytes.{split}
use Rattle.alias.specs.Lines.{table_entries}
use Rattle.text.specs.Internal.Named.{added_to}
use Rattle.text.specs.Read.{categories_read, no_categories}
use Rattle.text.specs.Write.{comma}
use Rattle.text.proofs.ReadLaws.{read_end, read_next}
use Rattle.text.proofs.read.Reader.read_categories.Goals.{In-Some}
use Rattle.text.proofs.read.Reader.read_categories.Goals as goal

piece : (c : In-Some) → categories_read (table_entries c.args.self.now.table) no_categories (split comma c.args.names.now)
    ≡ and_then (added_to (table_entries c.args.self.now.table) c.loop-name.set c.in-Some.name.now)
    (λ (us : List ℕ). categories_read (table_entries c.args.self.now.table) us (drop (length c.loop-name.yielded + 1) (slice_split (λ b. eqb b comma) c.args.names.now)))
piece c =
    let t = YieldsList-turn
    (YieldsList-at c.into_iter-name-iterator.ensures.into_iter_gives
    (YieldsList-from_slice_split _ (λ b. eqb b comma) c.args.names.now c.split-name-items.ensures.rest c.split-name-items.ensures.done c.split-name-items.ensures.closure (λ x r q k. search (rules, tests))))
    c.loop-name.yielded _ c.loop-name.yielded_by _ _ c.in-Some.name c.in-Some.is c.next.ensures.steps in
    c.loop-name.invariant ∙ read_next _ _ _ _ c.in-Some.name.now t

pub returns-in_err-set : goal.returns-in_err-set
returns-in_err-set c =
    let p = err_from_is_err_and c.from_residual.result c.from_residual.ensures.1 in
    rw (p.1, p.2) (sym (piece (goal.at.returns-in_err-set c).In-Some ∙ refused_next c.add_category.ensures _ c.in_err-set.was))

pub loop-name-preserved : goal.loop-name-preserved
loop-name-preserved c =
    rw (length_push c.loop-name.yielded c.in-Some.name) (piece (goal.at.loop-name-preserved c).In-Some ∙ grant_next c.add_category.ensures _ c.in_ok-set.was)

pub returns : goal.returns
returns c =
    let t = YieldsList-end
    (YieldsList-at c.into_iter-name-iterator.ensures.into_iter_gives
    (YieldsList-from_slice_split _ (λ b. eqb b comma) c.args.names.now c.split-name-items.ensures.rest c.split-name-items.ensures.done c.split-name-items.ensures.closure (λ x r q k. search (rules, tests))))
    c.loop-name.yielded _ c.loop-name.yielded_by _ _ c.in-None.is c.next.ensures.steps in
    sym (c.loop-name.invariant ∙ read_end _ _ _ _ (sym t.1))

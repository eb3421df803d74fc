-- What `split` yields behind the word are the fields (`fields_of`): the one at hand is the field that the count says (`YieldsList-turn`), and at the
-- end all were yielded (`YieldsList-end`).
use Rattle.std.proofs.Common.{rules, tests, eqb, refl, sym, ap, ◌∙◌, arith, length-set, length-append, drop, ℕ, ◌+◌, [], ◌∷◌, length, ◌<◌}
use Rattle.std.proofs.lemmas.Iterator.Adapters.{YieldsList-from_skip}
use Rattle.std.proofs.lemmas.Iterator.Consumers.{YieldsList-end, YieldsList-turn}
use Rattle.std.proofs.lemmas.Iterator.Splits.{YieldsList-from_slice_split}
use Rattle.octets.specs.Bytes.{blank}
use Rattle.console.proofs.CommandLaws.{body_bad, body_end, body_full, body_next, body_start, fields_of, zeros_next}
use Rattle.console.proofs.command.parse_body.Goals as goal

pub loop-field-init : goal.loop-field-init
loop-field-init c =
    record { so_many = refl; within = omega arith; long = refl; zeros = refl; so_far = rw c.index_of-word.ensures.index (body_start c.args.body.now) }

pub returns-then-count-eq-MAX_NUMBERS : goal.returns-then-count-eq-MAX_NUMBERS
returns-then-count-eq-MAX_NUMBERS c =
    let body = drop c.index_of-word.result c.args.body.now in
    let r = c.rest.ensures in
    let l = c.loop-field in
    let i = l.invariant in
    let turn =
    YieldsList-turn {s = c.into_iter-field-iterator.result} (YieldsList-from_skip 1 (YieldsList-from_slice_split _ (λ b. eqb b blank) body (cc) (cc) (cc) (λ x b q k. search (rules, tests))) (cc)) l.yielded
    l.field-iterator l.yielded_by c.next.result c.next.new.self c.in-Some.field c.in-Some.is c.next.ensures.steps in
    let at = rw (← i.so_many) at turn in
    body_full _ c.index_of-word.result (fields_of body) l.numbers l.count i.so_far _ at.0 at.1 c.if-count-eq-MAX_NUMBERS.true i.long

pub returns-in_err-numbers : goal.returns-in_err-numbers
returns-in_err-numbers c =
    let body = drop c.index_of-word.result c.args.body.now in
    let r = c.rest.ensures in
    let l = c.loop-field in
    let i = l.invariant in
    let turn =
    YieldsList-turn {s = c.into_iter-field-iterator.result} (YieldsList-from_skip 1 (YieldsList-from_slice_split _ (λ b. eqb b blank) body (cc) (cc) (cc) (λ x b q k. search (rules, tests))) (cc)) l.yielded
    l.field-iterator l.yielded_by c.next.result c.next.new.self c.in-Some.field c.in-Some.is c.next.ensures.steps in
    let at = rw (← i.so_many) at turn in
    c.from_residual.ensures ∙ body_bad _ c.index_of-word.result (fields_of body) l.numbers l.count i.so_far _ at.0 at.1 (sym c.in_err-numbers.ensures)

pub loop-field-preserved : goal.loop-field-preserved
loop-field-preserved c =
    let body = drop c.index_of-word.result c.args.body.now in
    let r = c.rest.ensures in
    let l = c.loop-field in
    let i = l.invariant in
    let turn =
    YieldsList-turn {s = c.into_iter-field-iterator.result} (YieldsList-from_skip 1 (YieldsList-from_slice_split _ (λ b. eqb b blank) body (cc) (cc) (cc) (λ x b q k. search (rules, tests))) (cc)) l.yielded
    l.field-iterator l.yielded_by c.next.result c.next.new.self c.in-Some.field c.in-Some.is c.next.ensures.steps in
    let at = rw (← i.so_many) at turn in
    let v = c.in_ok-numbers.field-0 in
    let long = i.long in
    let room : l.count < length l.numbers = omega arith in
    record {
      so_many = ap (λ (n : ℕ). n + 1) i.so_many ∙ sym (length-append l.yielded (c.in-Some.field ∷ []));
      within = omega arith;
      long = length-set l.numbers l.count v ∙ long;
      zeros = zeros_next l.numbers l.count v (omega arith) i.zeros;
      so_far = body_next _ c.index_of-word.result (fields_of body) l.numbers l.count i.so_far _ at.0 at.1 v (sym c.in_ok-numbers.ensures) room;
    }

pub returns : goal.returns
returns c =
    let body = drop c.index_of-word.result c.args.body.now in
    let r = c.rest.ensures in
    let l = c.loop-field in
    let i = l.invariant in
    let end =
    YieldsList-end {s = c.into_iter-field-iterator.result} (YieldsList-from_skip 1 (YieldsList-from_slice_split _ (λ b. eqb b blank) body (cc) (cc) (cc) (λ x b q k. search (rules, tests))) (cc)) l.yielded
    l.field-iterator l.yielded_by c.next.result c.next.new.self c.in-None.is c.next.ensures.steps in
    body_end _ c.index_of-word.result (fields_of body) l.numbers l.count i.so_far (i.so_many ∙ end.1) i.long i.within i.zeros

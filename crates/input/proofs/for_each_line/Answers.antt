use Rattle.std.proofs.Common.{add-one, rules, of_calls, refl}
use Rattle.input.specs.Input.{Fed}
use Rattle.input.proofs.InputLaws.{fed_all, fed_more}
use Rattle.input.proofs.for_each_line.Goals as goal

pub loop-init : goal.loop-init
unfolding Fed
loop-init g c = record { callable = c.requires; fed = (refl, c.start_input-i.ensures, refl, refl) }

pub loop-preserved : goal.loop-preserved
loop-preserved g c =
    let l = c.loop in
    record {
      callable = search (rules, of_calls);
      fed =
          rw add-one
          (fed_more _ c.args.f c.args.chunk.now c.args.line.now l.counter l.f l.i l.chunk l.line c.in-Some.n l.invariant.fed c.find-l.ensures c.in-Some.is
          (record { shown = c.front.result; shows = c.front.ensures; called = c.f.ensures }));
    }

pub returns-in_default : goal.returns-in_default
returns-in_default g c =
    let l = c.loop in
    fed_all _ c.args.f c.args.chunk.now c.args.line.now l.counter l.f l.i l.chunk l.line l.invariant.fed c.find-l.ensures c.in_default.is c.has_failed.ensures

-- After n turns n lines were handed on; the closure may still be called at any line.
use Rattle.std.specs.Fn.{CalledAt}
use Rattle.input.specs.Input.{Fed}
use Rattle.input.proofs.for_each_line.Given as goal

abbrev pub invariant-loop : goal.invariant-loop
invariant-loop g l =
    record {
      callable : goal.F-IsAlwaysCallable g l.f;
      fed : Fed (λ p x q. CalledAt g.F.FnMut p x tt q) l.fn.f l.initial.chunk l.initial.line l.counter l.f l.i l.chunk l.line;
    }

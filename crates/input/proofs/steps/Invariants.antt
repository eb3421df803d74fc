-- After n turns of the loop n steps were taken, each of which another may follow; where it ends sooner, the last step made a line or found the end.
use Rattle.std.proofs.Common.{◌≡◌, length, ℕ, ◌≤◌}
use Rattle.console.specs.declared.lines.Line.TheVariants.{Whole}
use Rattle.input.specs.Input.{Steps}
use Rattle.input.proofs.steps.Given as goal

abbrev pub invariant-loop : goal.invariant-loop
invariant-loop g l =
    record {
      chunk_length : length l.chunk ≡ length l.initial.chunk;
      line_length : length l.line ≡ length l.initial.line;
      whole : (n : ℕ) → l.t.line ≡ Whole n → n ≤ length l.line;
      taken : Steps l.counter l.fn.i l.initial.chunk l.initial.line l.t l.chunk l.line;
    }

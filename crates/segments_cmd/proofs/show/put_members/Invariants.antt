use Rattle.std.proofs.Common.{◌-◌, ◌+◌, ◌*◌, ◌≤◌, length, ◌≡◌}
use Rattle.octets.specs.Internal.Put.{Put}
use Rattle.label.specs.Words.{members_below, words}
use Rattle.segments_cmd.specs.Show.{list_text}
use Rattle.segments_cmd.proofs.show.put_members.Given as goal

abbrev pub invariant-loop-c : goal.invariant-loop-c
invariant-loop-c l =
    record {
      same_length : length l.out ≡ length l.initial.out;
      from_within : l.from ≤ 64 * words;
      end_within : l.«end» ≤ l.fn.at + 21 * l.from;
      put : Put l.initial.out l.fn.at (list_text (members_below l.fn.categories l.from)) l.«end» l.out;
    }

abbrev pub decreases-loop-c : goal.decreases-loop-c
decreases-loop-c l = 64 * words - l.from

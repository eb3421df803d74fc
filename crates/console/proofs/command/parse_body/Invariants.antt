-- The fields that were yielded are read as numbers, which make with the others the command (`command_from`).
use Rattle.std.proofs.Common.{◌≡◌, ◌-◌, ◌≤◌, drop, length, replicate, take}
use Rattle.console.specs.Command.{body_command_of, most}
use Rattle.console.proofs.CommandLaws.{command_from, fields_of}
use Rattle.console.proofs.command.parse_body.Given as goal

abbrev pub invariant-loop-field : goal.invariant-loop-field
invariant-loop-field l =
    record {
      so_many : l.count ≡ length l.yielded;
      within : l.count ≤ most;
      long : length l.numbers ≡ most;
      zeros : drop l.count l.numbers ≡ replicate (most - l.count) 0;
      so_far : body_command_of l.body ≡ command_from l.word (take l.count l.numbers) (drop l.count (fields_of (drop l.word l.body)));
    }

-- Who asks: document 01's subject of a text, and the caller of the monitor.
use Rattle.std.specs.Prelude.{Bool, ◌||◌}
use Rattle.label.specs.Label.{dominates_of, valid_of}
use Rattle.label.specs.declared.Label.{Label}
use Rattle.label.specs.declared.caller.Caller.{Caller}

-- a caller is bad when its label is invalid
abbrev pub caller_valid : Caller → Bool
caller_valid c = valid_of c.label

-- whether a caller may see a label: its own label dominates that, or it has the read override
unfoldable pub sees_of : Caller → Label → Bool
sees_of c l = c.read_override || dominates_of c.label l

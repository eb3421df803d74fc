-- Which labels may be shown, as a writer asks it before it looks for names.
use Rattle.std.specs.Prelude.{Bool, ◌&&◌}
use Rattle.common.specs.Answer.{Answer, granted, require}
use Rattle.label.specs.Caller.{caller_valid, sees_of}
use Rattle.label.specs.declared.Label.{Label}
use Rattle.label.specs.declared.caller.Caller.{Caller}

-- a label that may be shown: 22 where what is asked for or the caller is bad, 13 where the label is out of sight. For functions that are not public
unfoldable pub allowed_of : Bool → Caller → Label → Answer Label
allowed_of valid c l = require (valid && caller_valid c) 22 (require (sees_of c l) 13 (granted l))

-- The privileges that a request needs, by which the code decides. That this is document 01's table is the law `decide_needed`: nothing here
-- has to be believed.
use Rattle.std.specs.Prelude.{Bool, cond, not, ◌&&◌, ◌||◌, ℕ}
use Rattle.common.specs.Answer.{Answer, granted, require}
use Rattle.monitor.specs.Monitor.{asks, destructive_read, intent_execute, intent_get, intent_read, intent_search, intent_set, intent_write, met_of, Observe, Modify}
use Rattle.label.specs.declared.Label.{Label}
use Rattle.monitor.specs.declared.Met.{Met}
use Rattle.monitor.specs.declared.Object.{Object}
use Rattle.monitor.specs.declared.intent.Intent.{Intent}
use Rattle.monitor.specs.declared.intent.Intent.TheVariants.{Write, Read, Execute, Search, GetAttribute, SetAttribute}
use Rattle.monitor.specs.declared.ObjectClass.{ObjectClass}
use Rattle.monitor.specs.declared.Privileges.{Privileges}
use Rattle.monitor.specs.declared.Request.{Request}

-- the bit of the code's intent
abbrev pub intent_number : Intent → ℕ
intent_number Write = intent_write
intent_number Read = intent_read
intent_number Execute = intent_execute
intent_number Search = intent_search
intent_number GetAttribute = intent_get
intent_number SetAttribute = intent_set

-- whether a row that observes is asked for
unfoldable pub observes_of : ℕ → Bool
observes_of intents = asks intents intent_read || asks intents intent_execute || asks intents intent_search || asks intents intent_get

-- whether a row that modifies is asked for
unfoldable pub modifies_of : ℕ → ObjectClass → Bool
modifies_of intents c = asks intents intent_write || (asks intents intent_read && destructive_read c) || asks intents intent_set

-- the tests of both accesses
abbrev pub tests_of : Label → Object → Met
tests_of subject o = record { observe = met_of subject o Observe; modify = met_of subject o Modify }

unfoldable pub needed_of : Request → Privileges
needed_of r =
    record {
      read = observes_of r.intents && not (met_of r.credentials.label r.object Observe);
      write = modifies_of r.intents r.object.class && not (met_of r.credentials.label r.object Modify);
      relabel = asks r.intents intent_set;
    }

-- what is answered to a valid request that needs n, where p is there
unfoldable pub answer_by : Privileges → Privileges → Answer ℕ
answer_by n p =
    require (not (n.read && not p.read || n.write && not p.write)) 13
    (require (not (n.relabel && not p.relabel)) 1 (granted (cond (n.read || n.write || n.relabel) 1 0)))

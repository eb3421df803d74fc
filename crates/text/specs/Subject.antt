-- Document 01, "Names and text": what may be shown to the subject, which is the caller, and the table that is asked.
use Rattle.std.specs.Prelude.{Bool, List, ℕ}
use Rattle.common.specs.Answer.{Answer, and_then}
use Rattle.alias_entry.specs.declared.Entry.{Entry}
use Rattle.octets.specs.Lines.{lines_of}
use Rattle.alias.specs.Lines.{entries_of}
use Rattle.alias.specs.Table.{check_table}
use Rattle.alias.specs.declared.LineStarts.{LineStarts}

-- what is answered of the entries of a table; a bad table is refused before all else
abbrev pub with_table : {A : Type 0} → Bool → List ℕ → (List Entry → Answer A) → Answer A
with_table more table answer = and_then (check_table more table) (λ (x : LineStarts). answer (entries_of (lines_of table)))

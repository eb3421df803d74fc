-- What follows a table that was tested, and a label that may be shown.
use mathlib.Core.Bool.{Bool, ◌&&◌}
use mathlib.Core.List.{List}
use mathlib.Core.Path.{◌≡◌, sym, ap, ◌∙◌}
use Prim.Native.Nat.{ℕ, ◌+◌}
use lib.ListN.{take}
use Rattle.std.specs.Prelude.{Result, Ok, Err}
use Rattle.common.specs.Answer.{Answer, and_then, answer_by, answer_of, refused_by, require}
use Rattle.common.specs.declared.errno.Errno.{Errno}
use Rattle.label.specs.Caller.{caller_valid, sees_of}
use Rattle.label.specs.declared.Label.{Label}
use Rattle.label.specs.declared.caller.Caller.{Caller}
use Rattle.common.proofs.AnswerLaws.{grant_next, granted_is, require_then}
use Rattle.alias_entry.specs.declared.Entry.{Entry}
use Rattle.octets.specs.Lines.{lines_of}
use Rattle.alias.specs.Lines.{entries_of, table_entries}
use Rattle.alias.specs.Table.{check_table}
use Rattle.alias.specs.declared.LineStarts.{LineStarts}
use Rattle.alias.specs.declared.lookup.Table.{Table}
use Rattle.alias.proofs.TableLaws.{checked_lines}
use Rattle.text.specs.Subject.{with_table}
use Rattle.text.specs.Internal.Allowed.{allowed_of}

-- a table that is granted: the entries by its starts are its own
pub table_next : {A : Type 0} (more : Bool) (bytes : List ℕ) {r : Result LineStarts Errno} {x : LineStarts} (t : Table) → answer_of r ≡ check_table more bytes → r ≡ Ok x
    → t.bytes.now ≡ bytes → t.starts.now ≡ take (x.count + 1) x.starts → (answer : List Entry → Answer A) → with_table more bytes answer ≡ answer (table_entries t)
table_next more bytes {x = x} t h e b s answer =
    grant_next h (λ (y : LineStarts). answer (entries_of (lines_of bytes))) e
    ∙ ap (λ (ls : List (List ℕ)). answer (entries_of ls)) (rw (b, s) (sym (checked_lines more bytes x (granted_is h e))))

-- what follows where a label may be shown, and the refusal where it may not
module _ {A : Type 0} (valid : Bool) (s : Caller) (l : Label) (rest : Answer A) where
  allowed_then : require (valid && caller_valid s) 22 (require (sees_of s l) 13 rest) ≡ and_then (allowed_of valid s l) (λ m. rest)
  unfolding allowed_of
  allowed_then = rw (require_then, require_then)

  module _ {r : Result (Unit {0}) Errno} (h : answer_by (λ u. l) r ≡ allowed_of valid s l) where
    pub allowed_next : {u : Unit {0}} → r ≡ Ok u → require (valid && caller_valid s) 22 (require (sees_of s l) 13 rest) ≡ rest
    allowed_next e = allowed_then ∙ rw (← h, e)

    pub allowed_refused : {e : Errno} → r ≡ Err e → require (valid && caller_valid s) 22 (require (sees_of s l) 13 rest) ≡ refused_by e
    allowed_refused e = allowed_then ∙ rw (← h, e)

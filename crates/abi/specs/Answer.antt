-- Answers as C has them: a grant and a refusal are told apart by `refusal`, and a refusal that carries one more number by `carries`.
use Rattle.std.specs.Prelude.{Bool, List, ◌≡◌, ℕ, length, Option, None, Some, Result}
use Rattle.common.specs.Answer as answers
use Rattle.common.specs.Buffer.{buffer_of, length_of}
use Rattle.common.specs.Errno.{detail_of, errno_number}
use Rattle.label.specs.Label
use Rattle.label.specs.Words.{categories}
use Rattle.label.specs.declared.Label.{Label}
use Rattle.common.specs.declared.errno.Errno.{Errno}
use Rattle.range.specs.Range
use Rattle.range.specs.Tuple as core_tuples
use Rattle.range.specs.declared.Range.{Range}
use Rattle.range.specs.declared.tuple.Tuple as core_tuple
use Rattle.alias_entry.specs.declared.Entry as core_entry
use Rattle.alias.specs.declared.LineStarts.{LineStarts}
use Rattle.text.specs.Write.{Shown, length_written, status_or, status_written, text_of}
use Rattle.text.specs.declared.RangeWritten as core_written
use Rattle.abi.specs.Entry
use Rattle.abi.specs.Flag
use Rattle.abi.specs.declared.answer.CAnswer.{CAnswer}
use Rattle.abi.specs.declared.answer.CEntryAnswer.{CEntryAnswer}
use Rattle.abi.specs.declared.answer.CLabelAnswer.{CLabelAnswer}
use Rattle.abi.specs.declared.answer.CRangeAnswer.{CRangeAnswer}
use Rattle.abi.specs.declared.answer.CTupleAnswer.{CTupleAnswer}
use Rattle.abi.specs.declared.answer.CRangeWritten.{CRangeWritten}
use Rattle.abi.specs.declared.entry.CEntry as form

-- a grant has no refusal's number
abbrev pub grant : ℕ → CAnswer
grant value = record { refusal = 0; carries = 0; value = value }

-- a refusal, with the one more number that it may carry
abbrev pub refusal : ℕ → Option ℕ → CAnswer
refusal n None = record { refusal = n; carries = 0; value = 0 }
refusal n (Some more) = record { refusal = n; carries = 1; value = more }

abbrev pub refusal_by : Errno → CAnswer
refusal_by e = refusal (errno_number e) (detail_of e)

-- an answer, where f numbers what a grant has
abbrev pub numbered : {A : Type 0} → (A → ℕ) → answers.Answer A → CAnswer
numbered f (answers.granted x) = grant (f x)
numbered f (answers.refused n detail) = refusal n detail

abbrev pub same : ℕ → ℕ
same n = n

abbrev pub nothing : {A : Type 0} → A → ℕ
nothing x = 0

-- an answer that is a number
abbrev pub number_answer : answers.Answer ℕ → CAnswer
number_answer x = numbered same x

-- an answer that is yes, 1, or no, 0
abbrev pub test_answer : answers.Answer Bool → CAnswer
test_answer x = numbered Flag.encoded_of x

-- the category that is next, or, where there is none, how many categories there are
abbrev pub next_number : Option ℕ → ℕ
next_number None = categories
next_number (Some c) = c

-- an answer that stands beside what is answered
abbrev pub bare_answer : {A : Type 0} → answers.Answer A → CAnswer
bare_answer x = numbered nothing x

-- an answer with what stands beside it
abbrev pub with_label : CAnswer → Label → CLabelAnswer
with_label a l = record { answer = a; label = l }

abbrev pub with_range : CAnswer → Range → CRangeAnswer
with_range a x = record { answer = a; range = x }

abbrev pub with_tuple : CAnswer → core_tuple.Tuple → CTupleAnswer
with_tuple a t = record { answer = a; tuple = t }

-- what is answered; zeros beside a refusal
abbrev pub label_answer : answers.Answer Label → CLabelAnswer
label_answer x = with_label (bare_answer x) (answers.value_or Label.zero_label x)

abbrev pub range_answer : answers.Answer Range → CRangeAnswer
range_answer x = with_range (bare_answer x) (answers.value_or Range.zero_range x)

abbrev pub tuple_answer : answers.Answer core_tuple.Tuple → CTupleAnswer
tuple_answer x = with_tuple (bare_answer x) (answers.value_or core_tuples.empty_tuple x)

-- an entry's numbers; zeros, which name nothing, beside a refusal
abbrev pub entry_beside : answers.Answer core_entry.Entry → form.CEntry
entry_beside (answers.granted e) = Entry.encoded_of e
entry_beside (answers.refused n detail) = Entry.zero_c_entry

abbrev pub entry_answer : answers.Answer core_entry.Entry → CEntryAnswer
entry_answer x = record { answer = bare_answer x; entry = entry_beside x }

-- r is answered, and `before` becomes `after`, where a text, or its refusal, is to be written
pub record CWrittenTo (r : CAnswer) (text : answers.Answer (List ℕ)) (before after : List ℕ) : Type 0 where
  pub answer : r ≡ number_answer (length_of text (length before))
  pub buffer : after ≡ buffer_of text before

-- the same of a range, with its status
pub record CRangeWrittenTo (r : CRangeWritten) (x : answers.Answer Shown) (before after : List ℕ) : Type 0 where
  pub written : CWrittenTo r.answer (text_of x) before after
  pub status : r.status ≡ status_or (answers.is_granted (length_of (text_of x) (length before))) x

-- what a table's check answers: how many lines it has
abbrev pub line_count : LineStarts → ℕ
line_count lines = lines.count

-- ---- what the code says of a range that was written. For functions that are not exported

abbrev pub range_written : Result core_written.RangeWritten Errno → CRangeWritten
range_written r = record { answer = number_answer (answers.answer_of (length_written r)); status = status_written r }

-- Laws of the answers: what a function of the library answers, in the form that C has; and that this form tells answers apart.
use mathlib.Core.List.{List}
use Rattle.std.specs.Prelude.{None, Some, Result}
use mathlib.Core.Path.{◌≡◌, ap, ap₂, ◌∙◌}
use Prim.Native.Nat.{ℕ, ◌≤◌, ◌<◌}
use native.Mathlib.Omega.{arith}
use Rattle.common.specs.Answer as answers
use Rattle.common.specs.Buffer as buffers
use Rattle.common.specs.Errno.{errno_number}
use Rattle.common.specs.declared.errno.Errno.{Errno}
use Rattle.common.specs.declared.errno.Errno.TheVariants.{Perm, NoEnt, TooBig, NoMem, Access, Busy, Invalid, BadLine, NoSpace, Domain}
use Rattle.segment_table.specs.Replies.{Results, Step}
use Rattle.segment_table.specs.declared.CallOutcome as core_outcome
use Rattle.text.specs.Write as texts
use Rattle.text.specs.declared.RangeWritten as core_written
use Rattle.abi.specs.Answer.{CRangeWrittenTo, CWrittenTo, number_answer, numbered, range_written}
use Rattle.abi.specs.Outcome.{grant_number, handed_back, outcome, shown_of, step_outcome}
use Rattle.abi.specs.declared.answer.CAnswer.{CAnswer}

-- ---- what is written to a buffer

pub write_answered : {r : Result ℕ Errno} {text : answers.Answer (List ℕ)} {before after : List ℕ} → buffers.WrittenTo r text before after
    → CWrittenTo (number_answer (answers.answer_of r)) text before after
write_answered h = record { answer = ap number_answer h.answer; buffer = h.buffer }

pub range_write_answered : {r : Result core_written.RangeWritten Errno} {x : answers.Answer texts.Shown} {before after : List ℕ} → texts.RangeWrittenTo r x before after
    → CRangeWrittenTo (range_written r) x before after
range_write_answered h = record { written = write_answered h.written; status = h.status }

-- ---- what a call on the state hands back

pub call_answered : {o : core_outcome.CallOutcome} {x : Step} → Results o x → handed_back o ≡ step_outcome x
call_answered {o} {x} h =
    ap (λ s. outcome s (numbered grant_number (answers.answer_of o.answer)) (shown_of (answers.answer_of o.answer))) h.table
    ∙ ap (λ a. outcome x.table (numbered grant_number a) (shown_of a)) h.answer

-- ---- grants and refusals

-- no refusal has the number 0
pub refusal_positive : (e : Errno) → 0 < errno_number e
refusal_positive Perm = omega arith
refusal_positive NoEnt = omega arith
refusal_positive (TooBig n) = omega arith
refusal_positive NoMem = omega arith
refusal_positive Access = omega arith
refusal_positive Busy = omega arith
refusal_positive Invalid = omega arith
refusal_positive (BadLine n) = omega arith
refusal_positive NoSpace = omega arith
refusal_positive Domain = omega arith

-- what a function may answer: any grant, and a refusal whose number is not 0
abbrev pub Answerable : {A : Type 0} → answers.Answer A → Type 0
Answerable (answers.granted value) = 0 ≤ 0
Answerable (answers.refused n detail) = 0 < n

-- what is refused by an enum is
pub refused_answerable : (A : Type 0) (e : Errno) → Answerable {A = A} (answers.refused_by e)
refused_answerable A e = refusal_positive e

-- so the C form tells answers apart: a grant from a refusal, a refusal that carries one more number from one that does not, and each from each
-- other of its kind
pub told_apart : (x y : answers.Answer ℕ) → Answerable x → Answerable y → number_answer x ≡ number_answer y → x ≡ y
told_apart (answers.granted v) (answers.granted w) h l e = ap answers.granted (ap (λ (a : CAnswer). a.value) e)
told_apart (answers.granted v) (answers.refused n None) h l e = let z : 0 ≡ n = ap (λ (a : CAnswer). a.refusal) e in absurd (omega arith)
told_apart (answers.granted v) (answers.refused n (Some m)) h l e = let z : 0 ≡ n = ap (λ (a : CAnswer). a.refusal) e in absurd (omega arith)
told_apart (answers.refused n None) (answers.granted w) h l e = let z : n ≡ 0 = ap (λ (a : CAnswer). a.refusal) e in absurd (omega arith)
told_apart (answers.refused n (Some m)) (answers.granted w) h l e = let z : n ≡ 0 = ap (λ (a : CAnswer). a.refusal) e in absurd (omega arith)
told_apart (answers.refused n None) (answers.refused k None) h l e = ap (λ (i : ℕ). answers.refused i None) (ap (λ (a : CAnswer). a.refusal) e)
told_apart (answers.refused n (Some m)) (answers.refused k (Some j)) h l e =
    ap₂ (λ (i p : ℕ). answers.refused i (Some p)) (ap (λ (a : CAnswer). a.refusal) e) (ap (λ (a : CAnswer). a.value) e)
told_apart (answers.refused n None) (answers.refused k (Some j)) h l e = let z : ◌≡◌ {A = ℕ} 0 1 = ap (λ (a : CAnswer). a.carries) e in absurd (omega arith)
told_apart (answers.refused n (Some m)) (answers.refused k None) h l e = let z : ◌≡◌ {A = ℕ} 1 0 = ap (λ (a : CAnswer). a.carries) e in absurd (omega arith)

-- What a call answers, in document 01's numbers; and what the code's `Result` says in these.
use Rattle.std.specs.Prelude.{Bool, true, false, ℕ, Option, None, Result, Ok, Err}
use Rattle.common.specs.Errno.{detail_of, errno_number}
use Rattle.common.specs.declared.errno.Errno.{Errno}

-- a grant with what it answers, or a refusal with its number and the one more number that some carry
pub data Answer (A : Type 0) : Type 0 where
  granted : A → Answer A
  refused : ℕ → Option ℕ → Answer A

abbrev pub is_granted : {A : Type 0} → Answer A → Bool
is_granted (granted value) = true
is_granted (refused n detail) = false

-- what follows a grant, or the refusal
abbrev pub and_then : {A B : Type 0} → Answer A → (A → Answer B) → Answer B
and_then (granted value) next = next value
and_then (refused n detail) next = refused n detail

-- a check: what follows where the test holds, else the refusal n
abbrev pub require : {A : Type 0} → Bool → ℕ → Answer A → Answer A
require true n rest = rest
require false n rest = refused n None

-- refused by e
abbrev pub refused_by : {A : Type 0} → Errno → Answer A
refused_by e = refused (errno_number e) (detail_of e)

-- what the code's result says
abbrev pub answer_of : {A : Type 0} → Result A Errno → Answer A
answer_of (Ok value) = granted value
answer_of (Err e) = refused_by e

-- the same, where f makes the definitions' value of the code's
abbrev pub answer_by : {A B : Type 0} → (A → B) → Result A Errno → Answer B
answer_by f (Ok value) = granted (f value)
answer_by f (Err e) = refused_by e

-- the value of a grant, and z beside a refusal
abbrev pub value_or : {A : Type 0} → A → Answer A → A
value_or z (granted value) = value
value_or z (refused n detail) = z

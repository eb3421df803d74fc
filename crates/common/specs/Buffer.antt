-- What a writer to a lent buffer answers, and what it leaves there.
use Rattle.std.specs.Prelude.{cond, List, ◌++◌, ◌≡◌, ℕ, Result, leb, drop, length, Some}
use Rattle.common.specs.Answer.{Answer, answer_of, granted, refused}
use Rattle.common.specs.declared.errno.Errno.{Errno}

-- the bytes of text at the front of a buffer: those past it stay
abbrev pub overlay : List ℕ → List ℕ → List ℕ
overlay text out = text ++ drop (length text) out

-- what is answered where a buffer has room for so many bytes: the length of the text, or, where it is short, 7 with that length
unfoldable pub length_of : Answer (List ℕ) → ℕ → Answer ℕ
length_of (granted text) room = cond (leb (length text) room) (granted (length text)) (refused 7 (Some (length text)))
length_of (refused n detail) room = refused n detail

-- what the buffer holds then: on a refusal, every byte as it was
unfoldable pub buffer_of : Answer (List ℕ) → List ℕ → List ℕ
buffer_of (granted text) out = cond (leb (length text) (length out)) (overlay text out) out
buffer_of (refused n detail) out = out

-- r is answered, and `before` becomes `after`, where a text, or its refusal, is to be written
pub record WrittenTo (r : Result ℕ Errno) (text : Answer (List ℕ)) (before after : List ℕ) : Type 0 where
  pub answer : answer_of r ≡ length_of text (length before)
  pub buffer : after ≡ buffer_of text before

-- What is printed.
use Rattle.std.specs.Prelude.{cond, List, [], ◌∷◌, ◌++◌, ℕ, zero, suc, ◌+◌, ◌/◌, ◌%◌, ltb, Option, None, Some}
use Rattle.common.specs.Errno.{detail_of, errno_number}
use Rattle.common.specs.declared.errno.Errno.{Errno}
use Rattle.octets.specs.Bytes.{ascii, blank, lf}

-- the byte of a decimal digit
abbrev pub digit : ℕ → ℕ
digit d = 48 + d

-- the decimal digits of n, by division by 10, where k steps are enough for them
unfoldable pub decimal_in : ℕ → ℕ → List ℕ
decimal_in zero n = []
decimal_in (suc k) n = cond (ltb n 10) (digit n ∷ []) (decimal_in k (n / 10) ++ (digit (n % 10) ∷ []))

-- the decimal digits of n, for which n + 1 steps are enough (the laws `decimal_one` and `decimal_more` say it with no steps)
unfoldable pub decimal_of : ℕ → List ℕ
decimal_of n = decimal_in (suc n) n

-- a word and a number
abbrev pub field : List ℕ → ℕ → List ℕ
field word n = word ++ decimal_of n

unfoldable pub error_word : List ℕ
error_word = ascii "error "

-- a blank and the one more number that a refusal may carry
unfoldable pub carried_text : Option ℕ → List ℕ
carried_text None = []
carried_text (Some n) = blank ∷ decimal_of n

-- `error N` or `error N M`, and LF
unfoldable pub refusal_text : ℕ → Option ℕ → List ℕ
refusal_text n carried = error_word ++ decimal_of n ++ carried_text carried ++ (lf ∷ [])

-- the line that answers a refusal
unfoldable pub error_text : Errno → List ℕ
error_text e = refusal_text (errno_number e) (detail_of e)

-- Document 01, "Hex lines": the frame, one a line, for a body of any bytes.
use Rattle.std.specs.Prelude.{ℕ, ◌+◌, ◌-◌, ◌*◌, ◌/◌, ◌%◌, Bool, false, cond, ◌&&◌, ◌||◌, List, [], ◌∷◌, ◌++◌, length, take, ◌==◌, nat_le, nat_lt}
use Rattle.common.specs.Answer.{Answer, granted, require}
use Rattle.common.specs.Buffer.{overlay}

-- ---- digits: lower-case hex

-- the digit of a number below 16
unfoldable pub digit_of : ℕ → ℕ
digit_of n = cond (nat_lt n 10) (48 + n) (87 + n)

unfoldable pub is_digit : ℕ → Bool
is_digit c = (nat_le 48 c && nat_le c 57) || (nat_le 97 c && nat_le c 102)

-- the number of a digit: its low bits, and 9 more for a letter (`digit_exact` says that it is this). Any other byte has a number below 16 by it too,
-- so that bytes stand in any line; a line with such a byte is no frame
unfoldable pub digit_value : ℕ → ℕ
digit_value c = (c + 9 * (c / 64)) % 16

-- two digits a byte, the high one first
unfoldable pub digits_of : List ℕ → List ℕ
digits_of [] = []
digits_of (b ∷ bytes) = digit_of (b / 16) ∷ digit_of (b % 16) ∷ digits_of bytes

-- ---- writing

unfoldable pub sum_of : List ℕ → ℕ
sum_of [] = 0
sum_of (b ∷ bytes) = b + sum_of bytes

-- the byte that makes the sum of all a multiple of 256
unfoldable pub check_byte : List ℕ → ℕ
check_byte body = (256 - sum_of body % 256) % 256

-- the line of a body: the digits of its bytes and of the check byte, then LF
unfoldable pub frame_of : List ℕ → List ℕ
frame_of body = digits_of (body ++ (check_byte body ∷ [])) ++ (10 ∷ [])

-- a body that is longer is not written: no kind has one, and the line's length stays a small number
abbrev pub max_body : ℕ
max_body = 65536

abbrev pub frame_answer_of : List ℕ → Answer (List ℕ)
frame_answer_of body = require (nat_le (length body) max_body) 22 (granted (frame_of body))

-- ---- reading

-- a line is pairs of digits, then LF and nothing after it
unfoldable pub spelled_of : List ℕ → Bool
spelled_of [] = false
spelled_of (c ∷ []) = c == 10
spelled_of (h ∷ l ∷ rest) = is_digit h && is_digit l && spelled_of rest

-- the bytes of a line
unfoldable pub bytes_of : List ℕ → List ℕ
bytes_of [] = []
bytes_of (c ∷ []) = []
bytes_of (h ∷ l ∷ rest) = (digit_value h * 16 + digit_value l) ∷ bytes_of rest

-- a line is a frame: spelled in digits, with a last byte that makes the sum a multiple of 256
unfoldable pub framed_of : List ℕ → Bool
framed_of line = spelled_of line && nat_le 1 (length (bytes_of line)) && sum_of (bytes_of line) % 256 == 0

-- all bytes but the last
unfoldable pub body_of : List ℕ → List ℕ
body_of line = take (length (bytes_of line) - 1) (bytes_of line)

-- the body of a line that is a frame, where it has so many bytes at most, and no bytes otherwise: of no bytes nothing is read
unfoldable pub sound_body : List ℕ → ℕ → List ℕ
sound_body line room = cond (framed_of line && nat_le (length (body_of line)) room) (body_of line) []

-- what a buffer holds in which a line is decoded: the body at its front where the line is spelled and its body fits, else what it held
unfoldable pub decoded_in : List ℕ → List ℕ → List ℕ
decoded_in line out = cond (spelled_of line && nat_le (length (body_of line)) (length out)) (overlay (body_of line) out) out

-- what is read of a line by way of its body: a line that is no frame is refused with 22
abbrev pub read_body : {A : Type 0} → (List ℕ → Answer A) → List ℕ → Answer A
read_body read line = require (framed_of line) 22 (read (body_of line))

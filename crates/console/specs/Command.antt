-- A command line: a word and numbers, one blank between.
use Rattle.std.specs.Prelude.{Bool, true, false, ◌&&◌, ◌||◌, cond, List, [], ◌∷◌, ◌++◌, ℕ, ◌+◌, ◌-◌, ◌*◌, ◌^◌, eqb, leb, ltb, length, replicate, take, Option, None, Some}
use Rattle.octets.specs.Bytes.{blank, first_field, index_of, lf, other_fields, split}
use Rattle.console.specs.declared.command.Command.{Command}

-- how many numbers a command has at most
abbrev pub most : ℕ
most = 6

-- whether each byte is one of `0` to `9`
unfoldable pub digits : List ℕ → Bool
digits [] = true
digits (b ∷ bs) = leb 48 b && leb b 57 && digits bs

-- the value of digits that follow digits of the value v
unfoldable pub decimal_from : ℕ → List ℕ → ℕ
decimal_from v [] = v
decimal_from v (b ∷ bs) = decimal_from (v * 10 + (b - 48)) bs

abbrev pub decimal_value : List ℕ → ℕ
decimal_value bs = decimal_from 0 bs

-- the number that a field is: one or more digits, with a value below 2 ^ 64
unfoldable pub field_number : List ℕ → Option ℕ
field_number bs = cond (ltb 0 (length bs) && digits bs && ltb (decimal_value bs) (2 ^ 64)) (Some (decimal_value bs)) None

-- a number and the numbers behind it, if there are both
abbrev pub cons_of : Option ℕ → Option (List ℕ) → Option (List ℕ)
cons_of None ns = None
cons_of (Some n) None = None
cons_of (Some n) (Some ns) = Some (n ∷ ns)

-- the numbers that the fields are, if each is one
unfoldable pub numbers_of : List (List ℕ) → Option (List ℕ)
numbers_of [] = Some []
numbers_of (f ∷ fs) = cons_of (field_number f) (numbers_of fs)

-- the line's bytes before its first LF, or all of them where there is none
unfoldable pub before_lf : List ℕ → List ℕ
before_lf line = take (index_of lf line) line

-- whether the line ends in LF and has no other
unfoldable pub ended_of : List ℕ → Bool
ended_of line = eqb (index_of lf line + 1) (length line)

-- the first field of the line
unfoldable pub command_word : List ℕ → List ℕ
command_word line = first_field (split blank (before_lf line))

abbrev pub with_numbers : ℕ → List ℕ → Command
with_numbers word ns = record { word = word; count = length ns; numbers = ns ++ replicate (most - length ns) 0 }

-- the command with a word of so many bytes and those numbers, if there are no more than a command may have
abbrev pub of_numbers : ℕ → Option (List ℕ) → Option Command
of_numbers word None = None
of_numbers word (Some ns) = cond (leb (length ns) most) (Some (with_numbers word ns)) None

-- the first field, which ends at the first blank, is the word, and those after it are the numbers
unfoldable pub body_command_of : List ℕ → Option Command
body_command_of body = of_numbers (index_of blank body) (numbers_of (other_fields (split blank body)))

-- what a command line says, if it is one
unfoldable pub command_of : List ℕ → Option Command
command_of line = cond (ended_of line) (body_command_of (before_lf line)) None

-- whether the line is empty, so that its first byte is its LF, or a comment, which begins with `#`
unfoldable pub skipped_of : List ℕ → Bool
skipped_of [] = false
skipped_of (b ∷ bs) = eqb b lf || eqb b 35

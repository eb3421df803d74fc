-- How long a number is in decimal digits.
use Rattle.std.specs.Prelude.{List, ◌≡◌, ℕ, ◌≤◌, length}

-- r is how many bytes bs has, and that is at most n
pub record ByteCount (n : ℕ) (bs : List ℕ) (r : ℕ) : Type 0 where
  pub count : r ≡ length bs
  pub at_most_lem : r ≤ n

-- the most bytes that a number below 2 ^ 64 takes
abbrev pub number_bytes : ℕ
number_bytes = 20

-- What is left of a limit, and what fits into it.
use Rattle.std.specs.Prelude.{Bool, false, cond, ℕ, ◌+◌, ◌-◌, leb, Option, None, Some}

-- what is left of a limit of which n is used, if n is not over it
abbrev pub limit_left : ℕ → ℕ → Option ℕ
limit_left limit n = cond (leb n limit) (Some (limit - n)) None

-- whether what is wanted is in what is left and what it replaces
abbrev pub fits_in : Option ℕ → ℕ → ℕ → Bool
fits_in None replaced wanted = false
fits_in (Some left) replaced wanted = leb wanted (left + replaced)

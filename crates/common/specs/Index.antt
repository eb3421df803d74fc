-- Lists, tests, searches and sums by the index, for what goes word by word, region by region or slot by slot.
use Rattle.std.specs.Prelude.{Bool, true, false, not, ◌&&◌, List, [], ◌∷◌, ◌++◌, ℕ, zero, suc, ◌+◌, Option, None, Some}

-- the list f 0, f 1, .. of n elements
unfoldable pub tabulate : {A : Type 0} → (ℕ → A) → ℕ → List A
tabulate f zero = []
tabulate f (suc n) = tabulate f n ++ (f n ∷ [])

-- whether f holds at each number below n
unfoldable pub every : (ℕ → Bool) → ℕ → Bool
every f zero = true
every f (suc n) = every f n && f n

-- whether f holds at some number below n
abbrev pub some_below : (ℕ → Bool) → ℕ → Bool
some_below f n = not (every (λ i. not (f i)) n)

abbrev pub first_or : Bool → ℕ → Option ℕ → Option ℕ
first_or true k rest = Some k
first_or false k rest = rest

-- the first among the n numbers from k on at which f holds
unfoldable pub first_from : (ℕ → Bool) → ℕ → ℕ → Option ℕ
first_from f k zero = None
first_from f k (suc n) = first_or (f k) k (first_from f (suc k) n)

-- the last among the numbers below n at which f holds
unfoldable pub last_below : (ℕ → Bool) → ℕ → Option ℕ
last_below f zero = None
last_below f (suc n) = first_or (f n) n (last_below f n)

-- f k + f (k + 1) + .. , n terms
unfoldable pub sum_from : (ℕ → ℕ) → ℕ → ℕ → ℕ
sum_from f k zero = 0
sum_from f k (suc n) = f k + sum_from f (suc k) n

-- Document 01, "Labels and regions": a set of categories as a list of words of 64 bits, of any length. A list is taken as going on with
-- words that are 0.
use Rattle.std.specs.Prelude.{Bool, true, false, ◌&&◌, List, [], ◌∷◌, ◌++◌, ℕ, zero, suc, ◌*◌, ◌-◌, ◌/◌, ◌%◌, ◌^◌, max, eqb, get_or, length, replicate, set, Option}
use Rattle.std.specs.Int.Bits.{bit_and, bit_or}
use Rattle.common.specs.Index.{every, first_from, tabulate}

-- how many words a label's set has
abbrev pub words : ℕ
words = 4

-- how many categories there are
abbrev pub categories : ℕ
categories = words * 64

abbrev pub word_at : List ℕ → ℕ → ℕ
word_at ws i = get_or ws i 0

-- whether bit k of x is set
unfoldable pub bit : ℕ → ℕ → Bool
bit x k = eqb (x / 2 ^ k % 2) 1

-- whether category c is in the set: bit c mod 64 of word c / 64
unfoldable pub has : List ℕ → ℕ → Bool
has ws c = bit (word_at ws (c / 64)) (c % 64)

-- the set that has the category c alone; no set has one past its last word
unfoldable pub single_of : ℕ → List ℕ
single_of c = set (replicate words 0) (c / 64) (2 ^ (c % 64))

-- two sets put together word by word
abbrev pub combined_at : (ℕ → ℕ → ℕ) → List ℕ → List ℕ → ℕ → ℕ
combined_at op a b i = op (word_at a i) (word_at b i)

unfoldable pub combine : (ℕ → ℕ → ℕ) → List ℕ → List ℕ → List ℕ
combine op a b = tabulate (combined_at op a b) (max (length a) (length b))

unfoldable pub union_of : List ℕ → List ℕ → List ℕ
union_of a b = combine bit_or a b

unfoldable pub intersection_of : List ℕ → List ℕ → List ℕ
intersection_of a b = combine bit_and a b

-- whether each bit of b's word i is set in a's
abbrev pub includes_at : List ℕ → List ℕ → ℕ → Bool
includes_at a b i = eqb (combined_at bit_and a b i) (word_at b i)

-- whether each category of b is in a
unfoldable pub includes_of : List ℕ → List ℕ → Bool
includes_of a b = every (includes_at a b) (max (length a) (length b))

-- whether a and b have the same categories: each includes the other
unfoldable pub same_of : List ℕ → List ℕ → Bool
same_of a b = includes_of a b && includes_of b a

-- the listing l with c at its end, where c is to be listed
abbrev pub listed_if : Bool → ℕ → List ℕ → List ℕ
listed_if true c l = l ++ (c ∷ [])
listed_if false c l = l

-- the categories below c, in rising order
unfoldable pub members_below : List ℕ → ℕ → List ℕ
members_below ws zero = []
members_below ws (suc c) = listed_if (has ws c) c (members_below ws c)

-- the categories of a set, in rising order
unfoldable pub members_of : List ℕ → List ℕ
members_of ws = members_below ws (length ws * 64)

-- the least category at or above c, if there is one
unfoldable pub next_category_from : List ℕ → ℕ → Option ℕ
next_category_from ws c = first_from (has ws) c (length ws * 64 - c)

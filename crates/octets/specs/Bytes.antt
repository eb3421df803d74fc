-- Lists of bytes: where a byte stands, the fields between bytes, bytes that are put over others or appended, two lists that are the same.
use Rattle.std.specs.Prelude.{Bool, true, false, ◌&&◌, cond, List, [], ◌∷◌, ◌++◌, ◌≡◌, ℕ, zero, suc, ◌+◌, ◌≤◌, max, min, eqb, leb, drop, length, take}
use Prim.Native.Char.{code}
use Prim.Native.String.{String, [] as end, ◌∷◌ as ◌then◌}

-- the bytes of an ASCII text
abbrev pub ascii : String → List ℕ
ascii end = []
ascii (c then s) = code c ∷ ascii s

abbrev pub lf : ℕ
lf = 10

abbrev pub blank : ℕ
blank = 32

-- the index of the first b in xs, or xs's length where there is none
unfoldable pub index_of : ℕ → List ℕ → ℕ
index_of b [] = zero
index_of b (x ∷ xs) = cond (eqb x b) zero (suc (index_of b xs))

-- x in front of the first field
abbrev pub on_first : ℕ → List (List ℕ) → List (List ℕ)
on_first x [] = []
on_first x (f ∷ fs) = (x ∷ f) ∷ fs

-- xs cut into fields at each b: one field more than there are b's
unfoldable pub split : ℕ → List ℕ → List (List ℕ)
split b [] = [] ∷ []
split b (x ∷ xs) = cond (eqb x b) ([] ∷ split b xs) (on_first x (split b xs))

abbrev pub first_field : List (List ℕ) → List ℕ
first_field [] = []
first_field (f ∷ fs) = f

abbrev pub other_fields : List (List ℕ) → List (List ℕ)
other_fields [] = []
other_fields (f ∷ fs) = fs

-- out with the bytes bs from index at on
unfoldable pub put_at : List ℕ → ℕ → List ℕ → List ℕ
put_at out at bs = take at out ++ bs ++ drop (at + length bs) out

-- the index past the bytes bs at index at of a buffer of size bytes, or at where they do not fit
unfoldable pub past_of : ℕ → ℕ → List ℕ → ℕ
past_of size at bs = cond (leb (at + length bs) size) (at + length bs) at

-- out with the bytes bs from index at on, or as it was where they do not fit
unfoldable pub appended_of : List ℕ → ℕ → List ℕ → List ℕ
appended_of out at bs = cond (leb (at + length bs) (length out)) (put_at out at bs) out

-- whether xs and ys are the same list
unfoldable pub same_bytes : List ℕ → List ℕ → Bool
same_bytes [] [] = true
same_bytes [] (y ∷ ys) = false
same_bytes (x ∷ xs) [] = false
same_bytes (x ∷ xs) (y ∷ ys) = eqb x y && same_bytes xs ys

-- r is the index of the first b in xs
pub record FirstIndex (b : ℕ) (xs : List ℕ) (r : ℕ) : Type 0 where
  pub index : r ≡ index_of b xs
  pub within : r ≤ length xs

-- r and the buffer `after` are what appending the bytes bs makes. The last three follow, and are stated for callers: r is an index of the
-- buffer, if at is one
pub record Appended (out : List ℕ) (at : ℕ) (bs : List ℕ) (r : ℕ) (after : List ℕ) : Type 0 where
  pub past : r ≡ past_of (length out) at bs
  pub written : after ≡ appended_of out at bs
  pub same_length : length after ≡ length out
  pub within : r ≤ max at (length after)
  pub counted : length (take r after) ≡ min r (length after)

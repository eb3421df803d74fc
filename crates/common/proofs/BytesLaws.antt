-- Lists of bytes: numbers below 256.
use mathlib.Core.List.{List, [], ◌∷◌, ◌++◌}
use mathlib.Core.Logic.{⊎_elim}
use Prim.Native.Nat.{ℕ, zero, suc, ◌<◌}
use native.Mathlib.Omega.{arith}
use lib.ListN.{length, get_or, take, length-take, get_or-eq_default}
use lib.Seq.{get_or-take}
use Rattle.common.proofs.IndexLaws.{le_or_lt}

-- each element is a byte
abbrev pub Bytes : List ℕ → Type 0
Bytes bs = (i : ℕ) → get_or bs i 0 < 256

-- past its end a list goes on with zeros, which are bytes
pub bytes_by : (bs : List ℕ) → ((i : ℕ) → i < length bs → get_or bs i 0 < 256) → Bytes bs
bytes_by bs h i = ⊎_elim (λ l. let z = get_or-eq_default bs 0 {n = i} l in omega arith) (λ l. h i l) (le_or_lt (length bs) i)

pub bytes_take : (n : ℕ) (bs : List ℕ) → Bytes bs → Bytes (take n bs)
bytes_take n bs h =
    bytes_by (take n bs) (λ i l. let e = length-take n bs in let g = get_or-take n bs i 0 (omega arith) in omega (arith, h i))

pub cons_bytes : (b : ℕ) (bs : List ℕ) → b < 256 → Bytes bs → Bytes (b ∷ bs)
cons_bytes b bs h small zero = h
cons_bytes b bs h small (suc i) = small i

pub bytes_append : (xs ys : List ℕ) → Bytes xs → Bytes ys → Bytes (xs ++ ys)
bytes_append [] ys hx hy i = hy i
bytes_append (x ∷ xs) ys hx hy zero = hx 0
bytes_append (x ∷ xs) ys hx hy (suc i) = bytes_append xs ys (λ j. hx (suc j)) hy i

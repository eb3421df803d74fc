-- Flags as C has them: 0 is false, 1 is true, and there is no other.
use Rattle.std.specs.Prelude.{Bool, cond, ℕ, eqb, leb}

abbrev pub formed_of : ℕ → Bool
formed_of n = leb n 1

abbrev pub decoded_of : ℕ → Bool
decoded_of n = eqb n 1

abbrev pub encoded_of : Bool → ℕ
encoded_of b = cond b 1 0

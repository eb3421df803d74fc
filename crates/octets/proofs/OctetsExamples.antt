-- Small examples, by computation.
use mathlib.Core.Bool.{true, false}
use mathlib.Core.List.{List, [], ◌∷◌}
use mathlib.Core.Path.{◌≡◌, refl}
use Prim.Native.Nat.{ℕ}
use lib.ListN.{replicate}
use Rattle.octets.specs.Bytes.{appended_of, past_of, put_at, same_bytes}

-- a, b, c
abbrev pub abc : List ℕ
abc = 97 ∷ 98 ∷ 99 ∷ []

-- a buffer of 5 bytes
abbrev pub zeros : List ℕ
zeros = replicate 5 0

same_word : (same_bytes abc abc ≡ true) × (same_bytes abc (97 ∷ 98 ∷ []) ≡ false)
unfolding same_bytes
same_word = (refl, refl)

-- three bytes at index 2 of five fit, at index 3 they do not
fits : (appended_of zeros 2 abc ≡ 0 ∷ 0 ∷ abc) × (past_of 5 2 abc ≡ 5)
unfolding appended_of past_of put_at
fits = (refl, refl)

left_out : (appended_of zeros 3 abc ≡ zeros) × (past_of 5 3 abc ≡ 3)
unfolding appended_of past_of
left_out = (refl, refl)

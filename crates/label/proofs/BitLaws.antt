-- The bits of `&` and `|`, and that a number is known by its bits: with these a law of `&` and `|` is a law of `&&` and `||`.
use mathlib.Core.Bool.{true, false, ◌&&◌, ◌||◌}
use mathlib.Core.Path.{◌≡◌, sym, ap, ◌∙◌}
use Prim.Native.Nat.{ℕ, zero, suc, ◌+◌, ◌%◌, ◌^◌, ◌≤◌, ◌<◌, max, min}
use native.Mathlib.Nat.{zero-lt-suc, lt_of_lt_of_le, div-eq_of_lt, pow-suc}
use native.Mathlib.Omega.{arith}
use lib.Bits.{bit_and, bit_or}
use lib.Dec.{eqb}
use lib.Pow.{pow_mono}
use Rattle.std.specs.Int.{bit_at}
use Rattle.std.proofs.lemmas.Nat.Bits.{bit_at-lt, bit_at_and, bit_at_or, same_from_bits_below}
use Rattle.label.specs.Words.{bit}
use Rattle.common.proofs.BoolLaws.{first_true, same_truth, both, second_true}

-- ---- digits below 2 as tests

either_digit : (r s : ℕ) → r < 2 → s < 2 → eqb (max r s) 1 ≡ (eqb r 1 || eqb s 1)
either_digit r s h k = grind arith

both_digits : (r s : ℕ) → r < 2 → s < 2 → eqb (min r s) 1 ≡ (eqb r 1 && eqb s 1)
both_digits r s h k = grind arith

same_digit : (r s : ℕ) → r < 2 → s < 2 → eqb r 1 ≡ eqb s 1 → r ≡ s
same_digit r s h k e = grind arith

-- ---- the bits of `|` and of `&`

pub bit_or_lem : (x y k : ℕ) → bit (bit_or x y) k ≡ (bit x k || bit y k)
unfolding bit
bit_or_lem x y k = ap (λ (r : ℕ). eqb r 1) (bit_at_or x y k) ∙ either_digit (bit_at x k) (bit_at y k) (bit_at-lt x k) (bit_at-lt y k)

pub bit_and_lem : (x y k : ℕ) → bit (bit_and x y) k ≡ (bit x k && bit y k)
unfolding bit
bit_and_lem x y k = ap (λ (r : ℕ). eqb r 1) (bit_at_and x y k) ∙ both_digits (bit_at x k) (bit_at y k) (bit_at-lt x k) (bit_at-lt y k)

-- ---- a number is known by its bits

-- a number of k bits has none above
pub bit_high : (x k j : ℕ) → x < 2 ^ k → k ≤ j → bit x j ≡ false
unfolding bit
bit_high x k j h l = ap (λ (z : ℕ). eqb (z % 2) 1) (div-eq_of_lt (lt_of_lt_of_le h (pow_mono l)))

lt_pow : (n : ℕ) → n < 2 ^ n
lt_pow zero = zero-lt-suc 0
lt_pow (suc n) = let ih : n < 2 ^ n = lt_pow n in rw pow-suc (omega arith)

pub bits_equal : (x y : ℕ) → ((j : ℕ) → bit x j ≡ bit y j) → x ≡ y
unfolding bit
bits_equal x y h =
    same_from_bits_below (x + y) x y (lt_of_lt_of_le (lt_pow x) (pow_mono (omega arith))) (lt_of_lt_of_le (lt_pow y) (pow_mono (omega arith)))
    (λ j l. same_digit (bit_at x j) (bit_at y j) (bit_at-lt x j) (bit_at-lt y j) (h j))

-- ---- the bits of y are among those of x exactly where `x & y` is y

pub bits_among : (x y : ℕ) → bit_and x y ≡ y → (j : ℕ) → bit y j ≡ true → bit x j ≡ true
bits_among x y e j h = first_true (bit x j) (bit y j) (sym (bit_and_lem x y j) ∙ ap (λ (z : ℕ). bit z j) e ∙ h)

pub among_bits : (x y : ℕ) → ((j : ℕ) → bit y j ≡ true → bit x j ≡ true) → bit_and x y ≡ y
among_bits x y h =
    bits_equal (bit_and x y) y (λ j. bit_and_lem x y j ∙ same_truth (bit x j && bit y j) (bit y j) (second_true (bit x j) (bit y j)) (λ e. both (h j e) e))

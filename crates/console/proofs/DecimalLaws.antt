-- Decimal digits: that reading them back gives the number, that there is no leading zero, and how many there are.
use mathlib.Core.Bool.{Bool, true, false, cond}
use mathlib.Core.List.{List, [], ◌∷◌, ◌++◌}
use Rattle.std.specs.Prelude.{Some}
use mathlib.Core.Path.{◌≡◌, refl, sym, ap, ◌∙◌}
use Prim.Native.Nat.{ℕ, zero, suc, ◌+◌, ◌*◌, ◌/◌, ◌%◌, ◌^◌, ◌≤◌, ◌<◌}
use native.Mathlib.Nat.{pow-suc}
use native.Mathlib.Omega.{arith}
use lib.Dec.{ltb}
use lib.ListN.{get_or, length, length-append, get_or-append}
use borrow.Author.Tests.{le-leb, le-ltb, lt-ltb, ltb-false}
use Rattle.common.proofs.IndexLaws.{le_or_lt}
use mathlib.Core.Logic.{◌⊎◌, inl, inr}
use Rattle.console.specs.Command.{digits, field_number, decimal_from, decimal_value}
use Rattle.console.specs.Format.{decimal_in, decimal_of, digit}
use Rattle.console.proofs.NumberLaws.{digits_append, number_from, number_start, value_append}

-- how many steps are allowed makes no difference, if there are enough
steps : (j k n : ℕ) → n < j → n < k → decimal_in j n ≡ decimal_in k n
unfolding decimal_in
steps zero k n h l = absurd (omega arith)
steps (suc j) zero n h l = absurd (omega arith)
steps (suc j) (suc k) n h l = pick (ltb n 10) refl (steps j k (n / 10))
  where
    pick : (t : Bool) → ltb n 10 ≡ t → (n / 10 < j → n / 10 < k → decimal_in j (n / 10) ≡ decimal_in k (n / 10))
        → cond t (digit n ∷ []) (decimal_in j (n / 10) ++ (digit (n % 10) ∷ [])) ≡ cond t (digit n ∷ []) (decimal_in k (n / 10) ++ (digit (n % 10) ∷ []))
    pick true e ih = refl
    pick false e ih = let g = ltb-false n 10 e in rw (ih (omega arith) (omega arith))

pub decimal_one : (n : ℕ) → n < 10 → decimal_of n ≡ digit n ∷ []
unfolding decimal_of decimal_in
decimal_one n h = rw (lt-ltb n 10 h)

pub decimal_more : (n : ℕ) → 10 ≤ n → decimal_of n ≡ decimal_of (n / 10) ++ (digit (n % 10) ∷ [])
unfolding decimal_of decimal_in
decimal_more n h = unfolded ∙ ap (λ (l : List ℕ). l ++ (digit (n % 10) ∷ [])) (steps n (suc (n / 10)) (n / 10) (omega arith) (omega arith))
  where
    unfolded : decimal_in (suc n) n ≡ decimal_in n (n / 10) ++ (digit (n % 10) ∷ [])
    unfolded = rw (le-ltb n 10 h)

-- what holds of one digit, and of n where it holds of n without its last digit, holds of every number
module _ (P : ℕ → Type 0) (one : (n : ℕ) → n < 10 → P n) (more : (n : ℕ) → 10 ≤ n → P (n / 10) → P n) where
  below : (k n : ℕ) → n < k → P n
  below zero n h = absurd (omega arith)
  below (suc k) n h = pick (le_or_lt 10 n) (below k (n / 10))
    where
      pick : (10 ≤ n) ⊎ (n < 10) → (n / 10 < k → P (n / 10)) → P n
      pick (inl l) ih = more n l (ih (omega arith))
      pick (inr l) ih = one n l

  pub by_digits : (n : ℕ) → P n
  by_digits n = below (suc n) n (omega arith)

-- read back, they give the number
pub decimal_value_lem : (n : ℕ) → decimal_value (decimal_of n) ≡ n
unfolding decimal_from
decimal_value_lem = by_digits (λ (n : ℕ). decimal_value (decimal_of n) ≡ n) one more
  where
    last : (v d : ℕ) → decimal_from v (digit d ∷ []) ≡ v * 10 + d
    last v d = omega arith

    one : (n : ℕ) → n < 10 → decimal_value (decimal_of n) ≡ n
    one n h = rw (decimal_one n h, last) (omega arith)

    more : (n : ℕ) → 10 ≤ n → decimal_value (decimal_of (n / 10)) ≡ n / 10 → decimal_value (decimal_of n) ≡ n
    more n h ih = rw (decimal_more n h, value_append, ih, last) (omega arith)

pub decimal_digits : (n : ℕ) → digits (decimal_of n) ≡ true
unfolding digits
decimal_digits = by_digits (λ (n : ℕ). digits (decimal_of n) ≡ true) one more
  where
    last : (d : ℕ) → d < 10 → digits (digit d ∷ []) ≡ true
    last d h = rw (le-leb 48 (digit d) (omega arith), le-leb (digit d) 57 (omega arith))

    one : (n : ℕ) → n < 10 → digits (decimal_of n) ≡ true
    one n h = rw (decimal_one n h) (last n h)

    more : (n : ℕ) → 10 ≤ n → digits (decimal_of (n / 10)) ≡ true → digits (decimal_of n) ≡ true
    more n h ih = rw (decimal_more n h) (digits_append (decimal_of (n / 10)) (digit (n % 10) ∷ []) ih (last (n % 10) (omega arith)))

pow_pos : (k : ℕ) → 0 < 10 ^ k
pow_pos zero = omega arith
pow_pos (suc k) = let p : 10 ^ suc k ≡ 10 ^ k * 10 = pow-suc 10 k in let i = pow_pos k in omega arith

-- how many there are
pub length_one : (n : ℕ) → n < 10 → length (decimal_of n) ≡ 1
length_one n h = rw (decimal_one n h)

pub length_more : (n : ℕ) → 10 ≤ n → length (decimal_of n) ≡ length (decimal_of (n / 10)) + 1
length_more n h = rw (decimal_more n h, length-append)

pub decimal_some : (n : ℕ) → 0 < length (decimal_of n)
decimal_some =
    by_digits (λ (n : ℕ). 0 < length (decimal_of n)) (λ n h. let e = length_one n h in omega arith) (λ n h ih. let e = length_more n h in omega arith)

-- n below a power of ten has at most as many
pub decimal_length : (n k : ℕ) → n < 10 ^ suc k → length (decimal_of n) ≤ suc k
decimal_length = by_digits (λ (n : ℕ). (k : ℕ) → n < 10 ^ suc k → length (decimal_of n) ≤ suc k) one more
  where
    one : (n : ℕ) → n < 10 → (k : ℕ) → n < 10 ^ suc k → length (decimal_of n) ≤ suc k
    one n h k l = let e = length_one n h in omega arith

    more : (n : ℕ) → 10 ≤ n → ((k : ℕ) → n / 10 < 10 ^ suc k → length (decimal_of (n / 10)) ≤ suc k) → (k : ℕ) → n < 10 ^ suc k → length (decimal_of n) ≤ suc k
    more n h ih zero l = absurd (omega arith)
    more n h ih (suc k) l =
        let e = length_more n h in
        let p : 10 ^ suc (suc k) ≡ 10 ^ suc k * 10 = pow-suc 10 (suc k) in
        let i = ih k (omega arith) in omega arith

-- n from 10 ^ k on, and below 10 ^ (k + 1), has k + 1
pub length_by_power : (n k : ℕ) → 10 ^ k ≤ n → n < 10 * 10 ^ k → length (decimal_of n) ≡ k + 1
length_by_power = by_digits (λ (n : ℕ). (k : ℕ) → 10 ^ k ≤ n → n < 10 * 10 ^ k → length (decimal_of n) ≡ k + 1) one more
  where
    one : (n : ℕ) → n < 10 → (k : ℕ) → 10 ^ k ≤ n → n < 10 * 10 ^ k → length (decimal_of n) ≡ k + 1
    one n h zero l m = length_one n h
    one n h (suc k) l m =
        let p : 10 ^ suc k ≡ 10 ^ k * 10 = pow-suc 10 k in
        let q : 0 < 10 ^ k = pow_pos k in absurd (omega arith)

    more : (n : ℕ) → 10 ≤ n → ((k : ℕ) → 10 ^ k ≤ n / 10 → n / 10 < 10 * 10 ^ k → length (decimal_of (n / 10)) ≡ k + 1) → (k : ℕ) → 10 ^ k ≤ n → n < 10 * 10 ^ k
        → length (decimal_of n) ≡ k + 1
    more n h ih zero l m = absurd (omega arith)
    more n h ih (suc k) l m =
        let e = length_more n h in
        let p : 10 ^ suc k ≡ 10 ^ k * 10 = pow-suc 10 k in
        let i = ih k (omega arith) (omega arith) in omega arith

-- no leading zero: the first digit is 0 only in the number 0
pub decimal_first : (n : ℕ) → get_or (decimal_of n) 0 0 ≡ digit 0 → n ≡ 0
decimal_first = by_digits (λ (n : ℕ). get_or (decimal_of n) 0 0 ≡ digit 0 → n ≡ 0) one more
  where
    one : (n : ℕ) → n < 10 → get_or (decimal_of n) 0 0 ≡ digit 0 → n ≡ 0
    one n h e = let f : digit n ≡ digit 0 = rw (decimal_one n h) at e in omega arith

    more : (n : ℕ) → 10 ≤ n → (get_or (decimal_of (n / 10)) 0 0 ≡ digit 0 → n / 10 ≡ 0) → get_or (decimal_of n) 0 0 ≡ digit 0 → n ≡ 0
    more n h ih e =
        let f : get_or (decimal_of n) 0 0 ≡ get_or (decimal_of (n / 10)) 0 0 =
        rw (decimal_more n h) (get_or-append (decimal_of (n / 10)) (digit (n % 10) ∷ []) 0 0 (decimal_some (n / 10))) in
        let g = ih (sym f ∙ e) in absurd (omega arith)

-- what is printed is read as the number that it was
pub decimal_read : (n : ℕ) → n < 2 ^ 64 → field_number (decimal_of n) ≡ Some n
unfolding number_from
decimal_read n h =
    let s = decimal_some n in
    number_start (decimal_of n) (λ (e : length (decimal_of n) ≡ 0). omega arith) ∙ rw (decimal_value_lem n, decimal_digits n, lt-ltb n (2 ^ 64) h)

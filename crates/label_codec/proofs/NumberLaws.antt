-- The laws of `base_number`: a number and its digits in a base, the lowest first.
use mathlib.Core.Bool.{cond}
use mathlib.Core.Path.{◌≡◌, refl, sym, ap, ap₂, ◌∙◌}
use Prim.Native.Nat.{ℕ, zero, suc, ◌+◌, ◌*◌, ◌-◌, ◌/◌, ◌%◌, ◌^◌, ◌≤◌, ◌<◌}
use native.Mathlib.Nat.{add-mul-div_left, add-mul-mod_self_left, add-zero, div-div-eq-div-mul, div-eq_of_lt, div-lt_iff_lt-mul, div-one, mod-add-div, mod-eq_of_lt, mod-lt, mul-add, mul-add-div_right, mul_comm, mul-le-mul_left, mul-one, pow-suc, pow-succ', pow-zero, zero-lt-suc}
use native.Mathlib.Omega.{arith}
use lib.Arith.{lt-one}
use lib.Dec.{eqb}
use lib.Pow.{mod-mod-pow, mod-pow-add, pow-add, pow_pos}
use Rattle.label_codec.specs.Body.{base_number}

-- the digits past the lowest are those of the quotient
pub quotient_digit : (w b k : ℕ) → w / b ^ suc k ≡ w / b / b ^ k
quotient_digit w b k = ap (λ (p : ℕ). w / p) (pow-succ' b k) ∙ sym (div-div-eq-div-mul w b (b ^ k))

lowest_digit : (w b : ℕ) → w / b ^ 0 ≡ w
lowest_digit w b = ap (λ (p : ℕ). w / p) (pow-zero b) ∙ div-one w

module _ (b : ℕ) (f : ℕ → ℕ) where
  -- digits below the base are those of their number
  pub number_digit : ((k : ℕ) → f k < b) → (i n k : ℕ) → k < n → base_number b f i n / b ^ k % b ≡ f (i + k)
  unfolding base_number
  number_digit h i zero k l = absurd (omega arith)
  number_digit h i (suc n) zero l =
      let pos : 0 < b = omega (arith, h i) in
      ap (λ (x : ℕ). x % b) (lowest_digit (f i + b * base_number b f (suc i) n) b)
      ∙ add-mul-mod_self_left (f i) b (base_number b f (suc i) n) ∙ mod-eq_of_lt (h i) ∙ ap f (sym (add-zero i))
  number_digit h i (suc n) (suc k) l =
      let pos : 0 < b = omega (arith, h i) in
      let q : (f i + b * base_number b f (suc i) n) / b ≡ base_number b f (suc i) n =
      add-mul-div_left (f i) (base_number b f (suc i) n) pos ∙ ap (λ (x : ℕ). x + base_number b f (suc i) n) (div-eq_of_lt (h i)) ∙ omega arith in
      ap (λ (x : ℕ). x % b) (quotient_digit (f i + b * base_number b f (suc i) n) b k ∙ ap (λ (x : ℕ). x / b ^ k) q)
      ∙ number_digit h (suc i) n k (omega arith) ∙ ap f (omega arith)

  -- a number is known by its digits
  pub number_only : 0 < b → (i n w : ℕ) → ((k : ℕ) → k < n → f (i + k) ≡ w / b ^ k % b) → w < b ^ n → base_number b f i n ≡ w
  unfolding base_number
  number_only pos i zero w h l = sym (lt-one (rw pow-zero at l))
  number_only pos i (suc n) w h l =
      let low : f i ≡ w % b = ap f (sym (add-zero i)) ∙ h 0 (omega arith) ∙ ap (λ (x : ℕ). x % b) (lowest_digit w b) in
      let high : base_number b f (suc i) n ≡ w / b =
      number_only pos (suc i) n (w / b)
      (λ k m. ap f (omega arith) ∙ h (suc k) (omega arith) ∙ ap (λ (x : ℕ). x % b) (quotient_digit w b k))
      ((div-lt_iff_lt-mul pos).1 (rw pow-suc at l)) in
      ap₂ (λ (x y : ℕ). x + b * y) low high ∙ mod-add-div w b

  pub number_bound : ((k : ℕ) → f k < b) → (i n : ℕ) → base_number b f i n < b ^ n
  unfolding base_number
  number_bound h i zero = rw pow-zero (zero-lt-suc 0)
  number_bound h i (suc n) =
      let ih : base_number b f (suc i) n < b ^ n = number_bound h (suc i) n in
      let m : b * (base_number b f (suc i) n + 1) ≤ b * b ^ n = mul-le-mul_left b (omega arith) in
      let e : b * (base_number b f (suc i) n + 1) ≡ b * base_number b f (suc i) n + b = mul-add b (base_number b f (suc i) n) 1 ∙ ap (λ (x : ℕ). b * base_number b f (suc i) n + x) (mul-one b) in
      rw pow-succ' (omega (arith, h i))

-- eight bits a byte
pub pow_byte : (k : ℕ) → 2 ^ (k * 8) ≡ 256 ^ k
pow_byte zero = refl
pow_byte (suc k) =
    let e : suc k * 8 ≡ k * 8 + 8 = omega arith in
    ap (λ (n : ℕ). 2 ^ n) e ∙ pow-add 2 (k * 8) 8 ∙ ap (λ (x : ℕ). x * 2 ^ 8) (pow_byte k) ∙ sym (pow-suc 256 k)

-- ---- bits

-- a test as a digit in base 2
pub as_number : (x : ℕ) → x < 2 → cond (eqb x 1) 1 0 ≡ x
as_number zero h = refl
as_number (suc zero) h = refl
as_number (suc (suc x)) h = absurd (omega arith)

-- a number's bits below n are those of its remainder by 2 ^ n
low_bit : (x j k : ℕ) → x % 2 ^ (suc j + k) / 2 ^ k % 2 ≡ x / 2 ^ k % 2
low_bit x j k =
    let high = x / 2 ^ k % 2 ^ suc j in
    let e : x % 2 ^ (suc j + k) / 2 ^ k ≡ high + x % 2 ^ k / 2 ^ k = ap (λ (y : ℕ). y / 2 ^ k) (mod-pow-add x (suc j) k) ∙ mul-add-div_right (pow_pos k) high (x % 2 ^ k) in
    let z : x % 2 ^ k / 2 ^ k ≡ 0 = div-eq_of_lt (mod-lt x (pow_pos k)) in
    let f : suc j ≡ j + 1 = omega arith in
    ap (λ (y : ℕ). y % 2) (e ∙ ap (λ (y : ℕ). high + y) z ∙ add-zero high ∙ ap (λ (m : ℕ). x / 2 ^ k % 2 ^ m) f) ∙ mod-mod-pow (x / 2 ^ k) j 1

-- bit 8 j + k of x is bit k of its byte j
pub byte_bit : (x j k : ℕ) → k < 8 → x / 2 ^ (8 * j + k) % 2 ≡ x / 256 ^ j % 256 / 2 ^ k % 2
byte_bit x j k h =
    let e : 2 ^ (8 * j + k) ≡ 256 ^ j * 2 ^ k =
    ap (λ (n : ℕ). 2 ^ n) (ap (λ (n : ℕ). n + k) (mul_comm 8 j)) ∙ pow-add 2 (j * 8) k ∙ ap (λ (p : ℕ). p * 2 ^ k) (pow_byte j) in
    let d : suc (7 - k) + k ≡ 8 = omega arith in
    ap (λ (p : ℕ). x / p % 2) e ∙ ap (λ (y : ℕ). y % 2) (sym (div-div-eq-div-mul x (256 ^ j) (2 ^ k)))
    ∙ sym (ap (λ (n : ℕ). x / 256 ^ j % 2 ^ n / 2 ^ k % 2) (sym d) ∙ low_bit (x / 256 ^ j) (7 - k) k)

-- a number is known by its digits, wherever they stand
pub number_moved : (b : ℕ) (f g : ℕ → ℕ) (i j n : ℕ) → ((k : ℕ) → k < n → f (i + k) ≡ g (j + k)) → base_number b f i n ≡ base_number b g j n
unfolding base_number
number_moved b f g i j zero h = refl
number_moved b f g i j (suc n) h =
    ap₂ (λ (x y : ℕ). x + b * y) (ap f (sym (add-zero i)) ∙ h 0 (omega arith) ∙ ap g (add-zero j))
    (number_moved b f g (suc i) (suc j) n (λ k l. ap f (omega arith) ∙ h (suc k) (omega arith) ∙ ap g (omega arith)))

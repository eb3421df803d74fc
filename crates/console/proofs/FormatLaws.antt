-- Digits that are put from the last to the first, and how many bytes a refusal's line has.
use Rattle.std.specs.Prelude.{Option}
use mathlib.Core.List.{List, [], ◌∷◌, ◌++◌}
use mathlib.Core.Logic.{◌⊎◌, inl, inr}
use mathlib.Core.Path.{◌≡◌, sym, ap, ◌∙◌}
use Prim.Native.Nat.{ℕ, suc, ◌+◌, ◌-◌, ◌/◌, ◌%◌, ◌≤◌, ◌<◌}
use native.Mathlib.Omega.{arith}
use lib.ListN.{length, set, take, length-append}
use lib.Seq.{length-take-le, take_at, take-take}
use Rattle.common.proofs.IndexLaws.{le_or_lt}
use Rattle.octets.specs.Bytes.{put_at}
use Rattle.octets.proofs.ByteLaws.{put_last}
use Rattle.console.specs.Format.{carried_text, decimal_of, digit, error_word, refusal_text}
use Rattle.console.proofs.DecimalLaws.{decimal_more, decimal_one, length_more, length_one}

pub refusal_length : (n : ℕ) (carried : Option ℕ) → length (refusal_text n carried) ≡ 6 + length (decimal_of n) + length (carried_text carried) + 1
unfolding refusal_text error_word
refusal_length n carried = simp length-append (omega arith)

-- ---- digits, from the last to the first

-- the first k + 1 digits of n are those of `left`: the last of them is its last digit, and the others are those of its tenth
pub digits_step : (n left k : ℕ) → suc k ≤ length (decimal_of n) → decimal_of left ≡ take (suc k) (decimal_of n)
    → (take (suc k) (decimal_of n) ≡ take k (decimal_of n) ++ (digit (left % 10) ∷ [])) × (0 < k → decimal_of (left / 10) ≡ take k (decimal_of n))
digits_step n left k h e = go (le_or_lt 10 left)
  where
    count : length (decimal_of left) ≡ suc k
    count = ap length e ∙ length-take-le (suc k) (decimal_of n) h

    go : (10 ≤ left) ⊎ (left < 10) → (take (suc k) (decimal_of n) ≡ take k (decimal_of n) ++ (digit (left % 10) ∷ [])) × (0 < k → decimal_of (left / 10) ≡ take k (decimal_of n))
    go (inl l) =
        let m = decimal_more left l in
        let ds : List ℕ = decimal_of (left / 10) in
        let c : k ≡ length ds = omega (arith, length_more left l, count) in
        let t : take k (decimal_of n) ≡ ds = sym (take-take k (suc k) (decimal_of n) (omega arith)) ∙ ap (take k) (sym e ∙ m) ∙ take_at ds (digit (left % 10) ∷ []) k (sym c) in
        (sym e ∙ m ∙ ap (λ (l : List ℕ). l ++ (digit (left % 10) ∷ [])) (sym t), λ _. sym t)
    go (inr l) =
        let z : k ≡ 0 = omega (arith, length_one left l, count) in
        let d : left ≡ left % 10 = omega arith in
        (sym e ∙ decimal_one left l ∙ rw (z, ← d), λ p. absurd (omega arith))

-- the byte at index j, which is k bytes past index at, is the last digit of what is left
pub put_step : (out : List ℕ) (at n left : ℕ) {i : ℕ} → at < i → i ≤ length out → i ≤ at + length (decimal_of n) → decimal_of left ≡ take (i - at) (decimal_of n)
    → (put_at (set out (i - 1) (digit (left % 10))) at (take (i - 1 - at) (decimal_of n)) ≡ put_at out at (take (i - at) (decimal_of n)))
    × (at < i - 1 → decimal_of (left / 10) ≡ take (i - 1 - at) (decimal_of n))
put_step out at n left {i} h room fits e =
    let k : ℕ = i - 1 - at in
    let m : i - at ≡ suc k = omega arith in
    let d = digits_step n left k (omega arith) (rw m at e) in
    let l = length-take-le k (decimal_of n) (omega arith) in
    let j : i - 1 ≡ at + length (take k (decimal_of n)) = omega arith in
    let b : ℕ = digit (left % 10) in (
      ap (λ (x : ℕ). put_at (set out x b) at (take k (decimal_of n))) j ∙ sym (put_last out at (take k (decimal_of n)) b (omega arith)) ∙ ap (put_at out at) (sym d.0)
          ∙ ap (λ (x : ℕ). put_at out at (take x (decimal_of n))) (sym m),
      λ p. d.1 (omega arith),
    )

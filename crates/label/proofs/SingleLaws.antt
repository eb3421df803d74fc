-- The set of one category: what it has, and what includes it.
use mathlib.Core.Bool.{true, false}
use mathlib.Core.List.{List}
use mathlib.Core.Logic.{⊎_elim}
use mathlib.Core.Path.{◌≡◌, sym, ap, ◌∙◌}
use Prim.Native.Nat.{ℕ, ◌*◌, ◌/◌, ◌%◌, ◌^◌, ◌≤◌, ◌<◌}
use native.Mathlib.Nat.{le_refl, one-mul}
use native.Mathlib.Omega.{arith}
use lib.Dec.{eqb}
use lib.ListN.{get_or, length, replicate, set, get_or-replicate, length-set, get_or-eq_default}
use lib.Pow.{pow-lt, pow_pos, shl_exact}
use lib.Seq.{get_or-set_other, get_or-set_same, set_out}
use borrow.Author.Tests.{eq-eqb, eqb-true, ne_eqb}
use Rattle.std.proofs.lemmas.Nat.Bits.{bit_at-pow_other, bit_at-pow_same}
use Rattle.label.specs.Words.{bit, has, includes_of, single_of, word_at, words}
use Rattle.label.proofs.BitLaws.{bit_high}
use Rattle.common.proofs.BoolLaws.{same_truth}
use Rattle.common.proofs.IndexLaws.{le_or_lt}
use Rattle.common.proofs.SearchLaws.{same_or_not}
use Rattle.label.proofs.WordLaws.{includes_exact}

-- ---- the bits of a power of two

power_same : (s : ℕ) → bit (2 ^ s) s ≡ true
unfolding bit
power_same s = ap (λ (r : ℕ). eqb r 1) (bit_at-pow_same s)

power_other : (s j : ℕ) → (j ≡ s → ⊥) → bit (2 ^ s) j ≡ false
unfolding bit
power_other s j h = ap (λ (r : ℕ). eqb r 1) (bit_at-pow_other s j h)

-- a bit shifted to its place in a word is its power of two
pub shifted_one : (s : ℕ) → s < 64 → 1 * 2 ^ s % 2 ^ 64 ≡ 2 ^ s
shifted_one s h = shl_exact 1 s 64 (omega arith) (omega arith) ∙ one-mul (2 ^ s)

-- ---- the set

pub zero_word : (i : ℕ) → word_at (replicate words 0) i ≡ 0
zero_word i = ⊎_elim (λ (l : words ≤ i). get_or-eq_default (replicate words 0) 0 l) (λ (l : i < words). get_or-replicate words i 0 0 l) (le_or_lt words i)

pub no_category : (c : ℕ) → has (replicate words 0) c ≡ false
unfolding has
no_category c = ap (λ (w : ℕ). bit w (c % 64)) (zero_word (c / 64)) ∙ bit_high 0 (c % 64) (c % 64) (pow_pos (c % 64)) (le_refl (c % 64))

pub single_past : (c : ℕ) → words ≤ c / 64 → single_of c ≡ replicate words 0
unfolding single_of
single_past c h = set_out (replicate words 0) (c / 64) (2 ^ (c % 64)) (omega arith)

pub single_length : (c : ℕ) → length (single_of c) ≡ words
unfolding single_of
single_length c = length-set (replicate words 0) (c / 64) (2 ^ (c % 64))

pub has_itself : (c : ℕ) → c < words * 64 → has (single_of c) c ≡ true
unfolding has single_of
has_itself c h = ap (λ (w : ℕ). bit w (c % 64)) (get_or-set_same (replicate words 0) (c / 64) (2 ^ (c % 64)) 0 (omega arith)) ∙ power_same (c % 64)

pub has_no_other : (c k : ℕ) → c < words * 64 → (k ≡ c → ⊥) → has (single_of c) k ≡ false
unfolding has single_of
has_no_other c k h d =
    ⊎_elim
    (λ (e : k / 64 ≡ c / 64).
    ap (λ (i : ℕ). bit (word_at (set (replicate words 0) (c / 64) (2 ^ (c % 64))) i) (k % 64)) e
    ∙ ap (λ (w : ℕ). bit w (k % 64)) (get_or-set_same (replicate words 0) (c / 64) (2 ^ (c % 64)) 0 (omega arith))
    ∙ power_other (c % 64) (k % 64) (λ f. d (omega arith)))
    (λ (e : k / 64 ≡ c / 64 → ⊥).
    ap (λ (w : ℕ). bit w (k % 64)) (get_or-set_other (replicate words 0) (c / 64) (k / 64) (2 ^ (c % 64)) 0 e ∙ zero_word (k / 64))
    ∙ bit_high 0 (k % 64) (k % 64) (pow_pos (k % 64)) (le_refl (k % 64)))
    (same_or_not (k / 64) (c / 64))

pub has_single : (c k : ℕ) → c < words * 64 → has (single_of c) k ≡ eqb k c
has_single c k h =
    ⊎_elim (λ (e : k ≡ c). ap (has (single_of c)) e ∙ has_itself c h ∙ sym (eq-eqb k c e))
    (λ (e : k ≡ c → ⊥). has_no_other c k h e ∙ sym (ne_eqb k c e)) (same_or_not k c)

pub single_word : (c i : ℕ) → word_at (single_of c) i < 2 ^ 64
unfolding single_of
single_word c i =
    ⊎_elim
    (λ (e : i ≡ c / 64).
    ⊎_elim
    (λ (l : words ≤ i). let z : get_or (set (replicate words 0) (c / 64) (2 ^ (c % 64))) i 0 ≡ 0 = get_or-eq_default (set (replicate words 0) (c / 64) (2 ^ (c % 64))) 0 (omega (arith, length-set (replicate words 0) (c / 64) (2 ^ (c % 64)))) in
    omega arith)
    (λ (l : i < words).
    let z = ap (λ (j : ℕ). get_or (set (replicate words 0) (c / 64) (2 ^ (c % 64))) j 0) e ∙ get_or-set_same (replicate words 0) (c / 64) (2 ^ (c % 64)) 0 (omega arith) in
    let p : 2 ^ (c % 64) < 2 ^ 64 = pow-lt {i = c % 64} {j = 64} (omega arith) in
    omega arith)
    (le_or_lt words i))
    (λ (e : i ≡ c / 64 → ⊥). let z = get_or-set_other (replicate words 0) (c / 64) i (2 ^ (c % 64)) 0 e ∙ zero_word i in omega arith) (same_or_not i (c / 64))

-- a set includes that of one category exactly if it has the category
pub includes_single : (ws : List ℕ) (c : ℕ) → c < words * 64 → includes_of ws (single_of c) ≡ has ws c
includes_single ws c h =
    same_truth (includes_of ws (single_of c)) (has ws c) (λ e. (includes_exact ws (single_of c) (single_word c)).0 e c (has_itself c h))
    (λ e. (includes_exact ws (single_of c) (single_word c)).1 (λ k f. ap (has ws) (eqb-true k c (sym (has_single c k h) ∙ f)) ∙ e))

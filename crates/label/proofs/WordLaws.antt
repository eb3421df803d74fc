-- The laws of category sets, over lists of words of any length.
use mathlib.Core.Bool.{true, ◌&&◌, ◌||◌, true≢false}
use mathlib.Core.List.{List}
use mathlib.Core.Logic.{◌↔◌, ⊎_elim}
use mathlib.Core.Path.{◌≡◌, refl, sym, ap, ap₂, ◌∙◌, subst}
use Prim.Native.Nat.{ℕ, ◌+◌, ◌*◌, ◌/◌, ◌%◌, ◌^◌, ◌≤◌, ◌<◌, max}
use native.Mathlib.Omega.{arith}
use lib.Arith.{digits_div, digits_mod}
use lib.Bits.{bit_and, bit_or}
use lib.ListN.{length, get_or, get_or-eq_default}
use lib.Seq.{ext_get_or}
use borrow.Author.Tests.{eqb-true, eq-eqb}
use Rattle.std.specs.Str.{bytes_eq}
use Rattle.std.proofs.lemmas.Slice.Eq.{bytes_eq-Decides}
use Rattle.common.specs.Index.{every, tabulate}
use Rattle.label.specs.Words.{bit, combine, combined_at, has, includes_at, includes_of, intersection_of, same_of, union_of, word_at}
use Rattle.label.proofs.BitLaws.{among_bits, bit_and_lem, bit_high, bit_or_lem, bits_among, bits_equal}
use Rattle.common.proofs.BoolLaws.{both, either, exactly_both, first_true, or_first, or_second, same_truth, second_true}
use Rattle.common.proofs.IndexLaws.{every_all, every_at, le_or_lt, tabulate_length, tabulate_pad}

-- ---- by the word

-- past the longer of two lists both go on with zeros
module _ (a b : List ℕ) (i : ℕ) (past : max (length a) (length b) ≤ i) where
  zero_left : word_at a i ≡ 0
  zero_left = get_or-eq_default a 0 (omega arith)

  zero_right : word_at b i ≡ 0
  zero_right = get_or-eq_default b 0 (omega arith)

combine_at : (op : ℕ → ℕ → ℕ) → op 0 0 ≡ 0 → (a b : List ℕ) (i : ℕ) → word_at (combine op a b) i ≡ op (word_at a i) (word_at b i)
unfolding combine
combine_at op z a b i = tabulate_pad (combined_at op a b) (max (length a) (length b)) i (λ p. ap₂ op (zero_left a b i p) (zero_right a b i p) ∙ z)

pub union_at : (a b : List ℕ) (i : ℕ) → word_at (union_of a b) i ≡ bit_or (word_at a i) (word_at b i)
unfolding union_of
union_at = combine_at bit_or refl

pub intersection_at : (a b : List ℕ) (i : ℕ) → word_at (intersection_of a b) i ≡ bit_and (word_at a i) (word_at b i)
unfolding intersection_of
intersection_at = combine_at bit_and refl

pub union_length : (a b : List ℕ) → length (union_of a b) ≡ max (length a) (length b)
unfolding union_of combine
union_length a b = tabulate_length (combined_at bit_or a b) (max (length a) (length b))

-- of two arrays of n words
pub includes_is : (a b : List ℕ) (n : ℕ) → length a ≡ n → length b ≡ n → every (includes_at a b) n ≡ includes_of a b
unfolding includes_of
includes_is a b n h k = let e : n ≡ max (length a) (length b) = omega arith in ap (every (includes_at a b)) e

pub combine_is : (op : ℕ → ℕ → ℕ) (a b : List ℕ) (n : ℕ) → length a ≡ n → length b ≡ n → tabulate (combined_at op a b) n ≡ combine op a b
unfolding combine
combine_is op a b n h k = let e : n ≡ max (length a) (length b) = omega arith in ap (tabulate (combined_at op a b)) e

-- ---- membership

union_bit : (a b : List ℕ) (i j : ℕ) → bit (word_at (union_of a b) i) j ≡ (bit (word_at a i) j || bit (word_at b i) j)
union_bit a b i j = ap (λ (w : ℕ). bit w j) (union_at a b i) ∙ bit_or_lem (word_at a i) (word_at b i) j

intersection_bit : (a b : List ℕ) (i j : ℕ) → bit (word_at (intersection_of a b) i) j ≡ (bit (word_at a i) j && bit (word_at b i) j)
intersection_bit a b i j = ap (λ (w : ℕ). bit w j) (intersection_at a b i) ∙ bit_and_lem (word_at a i) (word_at b i) j

pub has_union : (a b : List ℕ) (c : ℕ) → has (union_of a b) c ≡ (has a c || has b c)
unfolding has
has_union a b c = union_bit a b (c / 64) (c % 64)

pub has_intersection : (a b : List ℕ) (c : ℕ) → has (intersection_of a b) c ≡ (has a c && has b c)
unfolding has
has_intersection a b c = intersection_bit a b (c / 64) (c % 64)

pub has_at : (a : List ℕ) (i j : ℕ) → j < 64 → has a (i * 64 + j) ≡ bit (word_at a i) j
unfolding has
has_at a i j h = ap₂ (λ (m n : ℕ). bit (get_or a m 0) n) (digits_div i h) (digits_mod i h)

-- ---- inclusion, by the bits of each word

pub includes_bits : (a b : List ℕ) → includes_of a b ≡ true → (i j : ℕ) → bit (word_at b i) j ≡ true → bit (word_at a i) j ≡ true
unfolding includes_of
includes_bits a b e i j h = ⊎_elim past within (le_or_lt (max (length a) (length b)) i)
  where
    past : max (length a) (length b) ≤ i → bit (word_at a i) j ≡ true
    past l = ap (λ (w : ℕ). bit w j) (zero_left a b i l ∙ sym (zero_right a b i l)) ∙ h

    within : i < max (length a) (length b) → bit (word_at a i) j ≡ true
    within l =
        bits_among (word_at a i) (word_at b i)
        (eqb-true (bit_and (word_at a i) (word_at b i)) (word_at b i)
        (every_at (includes_at a b) (max (length a) (length b)) i e l)) j h

pub bits_include : (a b : List ℕ) → ((i j : ℕ) → bit (word_at b i) j ≡ true → bit (word_at a i) j ≡ true) → includes_of a b ≡ true
unfolding includes_of
bits_include a b h =
    every_all (includes_at a b) (max (length a) (length b))
    (λ i l. eq-eqb (bit_and (word_at a i) (word_at b i)) (word_at b i) (among_bits (word_at a i) (word_at b i) (h i)))

-- ---- inclusion is exactly that every category is included

-- where b's words are of 64 bits, as those of every value of the code's type are
pub includes_exact : (a b : List ℕ) → ((i : ℕ) → word_at b i < 2 ^ 64) → (includes_of a b ≡ true) ↔ ((c : ℕ) → has b c ≡ true → has a c ≡ true)
unfolding has
includes_exact a b w = (λ e c h. includes_bits a b e (c / 64) (c % 64) h, λ h. bits_include a b (λ i j e. ⊎_elim (above i j e) (within h i j e) (le_or_lt 64 j)))
  where
    above : (i j : ℕ) → bit (word_at b i) j ≡ true → 64 ≤ j → bit (word_at a i) j ≡ true
    above i j e l = absurd (true≢false (sym e ∙ bit_high (word_at b i) 64 j (w i) l))

    within : ((c : ℕ) → has b c ≡ true → has a c ≡ true) → (i j : ℕ) → bit (word_at b i) j ≡ true → j < 64 → bit (word_at a i) j ≡ true
    within h i j e l = sym (has_at a i j l) ∙ h (i * 64 + j) (has_at b i j l ∙ e)

-- ---- inclusion is a partial order

pub includes_refl : (a : List ℕ) → includes_of a a ≡ true
includes_refl a = bits_include a a (λ i j e. e)

pub includes_trans : (a b c : List ℕ) → includes_of a b ≡ true → includes_of b c ≡ true → includes_of a c ≡ true
includes_trans a b c p q = bits_include a c (λ i j e. includes_bits a b p i j (includes_bits b c q i j e))

pub includes_antisym : (a b : List ℕ) → length a ≡ length b → includes_of a b ≡ true → includes_of b a ≡ true → a ≡ b
includes_antisym a b l p q =
    ext_get_or 0 a b l (λ i h. bits_equal (word_at a i) (word_at b i) (λ j. same_truth (bit (word_at a i) j) (bit (word_at b i) j) (includes_bits b a q i j) (includes_bits a b p i j)))

-- ---- the union is the least set that includes both, the intersection the greatest that both include

pub union_includes : (a b c : List ℕ) → includes_of c (union_of a b) ≡ (includes_of c a && includes_of c b)
union_includes a b c =
    exactly_both (includes_of c (union_of a b)) (includes_of c a) (includes_of c b)
    (λ e. bits_include c a (λ i j h. includes_bits c (union_of a b) e i j (union_bit a b i j ∙ or_first (bit (word_at b i) j) h)))
    (λ e. bits_include c b (λ i j h. includes_bits c (union_of a b) e i j (union_bit a b i j ∙ or_second (bit (word_at a i) j) h)))
    (λ p q. bits_include c (union_of a b) (λ i j h. ⊎_elim (includes_bits c a p i j) (includes_bits c b q i j) (either (bit (word_at a i) j) (bit (word_at b i) j) (sym (union_bit a b i j) ∙ h))))

pub includes_intersection : (a b c : List ℕ) → includes_of (intersection_of a b) c ≡ (includes_of a c && includes_of b c)
includes_intersection a b c =
    exactly_both (includes_of (intersection_of a b) c) (includes_of a c) (includes_of b c)
    (λ e. bits_include a c (λ i j h. first_true (bit (word_at a i) j) (bit (word_at b i) j) (sym (intersection_bit a b i j) ∙ includes_bits (intersection_of a b) c e i j h)))
    (λ e. bits_include b c (λ i j h. second_true (bit (word_at a i) j) (bit (word_at b i) j) (sym (intersection_bit a b i j) ∙ includes_bits (intersection_of a b) c e i j h)))
    (λ p q. bits_include (intersection_of a b) c (λ i j h. intersection_bit a b i j ∙ both (includes_bits a c p i j h) (includes_bits b c q i j h)))

-- ---- equality

pub same_equal : (a b : List ℕ) → length a ≡ length b → same_of a b ≡ true → a ≡ b
unfolding same_of
same_equal a b l e = includes_antisym a b l (first_true (includes_of a b) (includes_of b a) e) (second_true (includes_of a b) (includes_of b a) e)

pub same_refl : (a : List ℕ) → same_of a a ≡ true
unfolding same_of
same_refl a = both (includes_refl a) (includes_refl a)

-- what `==` says of two arrays of words
pub equal_words : (a b : List ℕ) → length a ≡ length b → bytes_eq a b ≡ same_of a b
equal_words a b l =
    let d = bytes_eq-Decides a b in
    same_truth (bytes_eq a b) (same_of a b) (λ e. subst (λ (x : List ℕ). same_of a x ≡ true) (d.0 e) (same_refl a)) (λ e. d.1 (same_equal a b l e))

-- Digits that are read, one at a time.
use Rattle.std.specs.Char.{is_ascii_digit}
use mathlib.Core.Bool.{true, false, cond, ◌&&◌, and-false}
use mathlib.Core.List.{List, [], ◌∷◌, ◌++◌}
use Rattle.std.specs.Prelude.{Option, None, Some}
use mathlib.Core.Path.{◌≡◌, refl, sym, ◌∙◌}
use Prim.Native.Nat.{ℕ, suc, ◌+◌, ◌-◌, ◌*◌, ◌^◌, ◌≤◌, ◌<◌}
use native.Mathlib.Nat.{pos_of_ne-zero}
use native.Mathlib.Numerals.{add-one}
use native.Mathlib.Omega.{arith}
use lib.Dec.{eqb, leb, ltb}
use lib.ListN.{drop, get_or, length, drop_of_length-le}
use lib.Seq.{drop-cons}
use borrow.Author.Tests.{eqb-true, le-ltb, lt-ltb}
use Rattle.common.proofs.BoolLaws.{both, first_true, second_true}
use Rattle.console.specs.Command.{digits, field_number, decimal_from}

-- ---- digits and their value

pub digits_append : (xs ys : List ℕ) → digits xs ≡ true → digits ys ≡ true → digits (xs ++ ys) ≡ true
unfolding digits
digits_append [] ys e f = f
digits_append (x ∷ xs) ys e f =
    both (first_true (leb 48 x && leb x 57) (digits xs) e) (digits_append xs ys (second_true (leb 48 x && leb x 57) (digits xs) e) f)

pub value_append : (v : ℕ) (xs ys : List ℕ) → decimal_from v (xs ++ ys) ≡ decimal_from (decimal_from v xs) ys
unfolding decimal_from
value_append v [] ys = refl
value_append v (x ∷ xs) ys = value_append (v * 10 + (x - 48)) xs ys

value_grows : (v : ℕ) (bs : List ℕ) → v ≤ decimal_from v bs
unfolding decimal_from
value_grows v [] = omega arith
value_grows v (b ∷ bs) = let h = value_grows (v * 10 + (b - 48)) bs in omega arith

-- ---- a number, with v read so far

-- what the digits bs make of it
unfoldable pub number_from : ℕ → List ℕ → Option ℕ
number_from v bs = cond (digits bs && ltb (decimal_from v bs) (2 ^ 64)) (Some (decimal_from v bs)) None

pub number_large : (v : ℕ) (bs : List ℕ) → 2 ^ 64 ≤ v → number_from v bs ≡ None
unfolding number_from
number_large v bs h =
    let g = value_grows v bs in
    let l : ltb (decimal_from v bs) (2 ^ 64) ≡ false = le-ltb (decimal_from v bs) (2 ^ 64) (omega arith) in rw (l, and-false)

module _ (v b : ℕ) (bs : List ℕ) where
  first_digit : (leb 48 b && leb b 57) ≡ true → number_from v (b ∷ bs) ≡ number_from (v * 10 + (b - 48)) bs
  unfolding number_from digits decimal_from
  first_digit h = rw h

  first_bad : (leb 48 b && leb b 57) ≡ false → number_from v (b ∷ bs) ≡ None
  unfolding number_from digits
  first_bad h = rw h

pub number_none : (text : List ℕ) → true ≡ eqb (length text) 0 → None ≡ field_number text
unfolding field_number
number_none text h = rw (eqb-true (length text) 0 (sym h))

pub number_start : (text : List ℕ) → (length text ≡ 0 → ⊥) → field_number text ≡ number_from 0 text
unfolding field_number number_from
number_start text h = rw (lt-ltb 0 (length text) (pos_of_ne-zero h))

-- a loop that reads text from the front: v are the digits before index i
module _ (text : List ℕ) (v i : ℕ) (so_far : field_number text ≡ number_from v (drop i text)) where
  module _ (h : i < length text) where
    pub number_bad : false ≡ is_ascii_digit (get_or text i 0) → None ≡ field_number text
    number_bad l = sym (so_far ∙ rw (drop-cons text i 0 h) (first_bad v (get_or text i 0) (drop (suc i) text) (sym l)))

    pub number_pass : true ≡ is_ascii_digit (get_or text i 0) → field_number text ≡ number_from (v * 10 + (get_or text i 0 - 48)) (drop (i + 1) text)
    number_pass l = so_far ∙ rw (add-one, drop-cons text i 0 h) (first_digit v (get_or text i 0) (drop (suc i) text) (sym l))

    pub number_over : true ≡ is_ascii_digit (get_or text i 0) → 2 ^ 64 ≤ v * 10 + (get_or text i 0 - 48) → None ≡ field_number text
    number_over l m = sym (number_pass l ∙ number_large _ _ m)

  pub number_end : length text ≤ i → v < 2 ^ 64 → Some v ≡ field_number text
  unfolding number_from digits decimal_from
  number_end h l = sym (so_far ∙ rw (drop_of_length-le text h, lt-ltb v (2 ^ 64) l))

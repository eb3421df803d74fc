-- Fields and the numbers in them, as a loop over a line's body meets them; and the word of a command that was read.
use mathlib.Core.Bool.{Bool, true, false, cond}
use mathlib.Core.List.{List, [], ◌∷◌, ◌++◌, append_assoc, append-nil}
use Rattle.std.specs.Prelude.{Option, None, Some}
use Rattle.std.specs.List.{slice_split}
use mathlib.Core.Path.{◌≡◌, refl, sym, ap, ◌∙◌}
use Prim.Native.Nat.{ℕ, zero, suc, ◌+◌, ◌-◌, ◌≤◌, ◌<◌}
use native.Mathlib.Numerals.{add-one}
use native.Mathlib.Omega.{arith}
use lib.Dec.{eqb, leb}
use lib.ListN.{drop, get_or, length, replicate, set, take, drop_of_length-le, length-append, length-take, take-append-drop}
use lib.Seq.{drop-cons, drop-drop, drop-set-lt, length-take-le, take-suc-set, take-take}
use borrow.Author.Tests.{eq-eqb, le-leb, lt-leb, ne_eqb}
use Rattle.octets.specs.Bytes.{FirstIndex, blank, index_of, lf, other_fields, split}
use Rattle.octets.proofs.ByteLaws.{index_le, split_first, split_is}
use Rattle.console.specs.Command.{body_command_of, before_lf, command_of, cons_of, ended_of, most, field_number, numbers_of, of_numbers, with_numbers, command_word}
use Rattle.console.specs.declared.command.Command.{Command}

-- what stands before a first index has as many bytes
pub before_found : (b : ℕ) (xs : List ℕ) (r : ℕ) → FirstIndex b xs r → r ≡ length (take r xs)
before_found b xs r f = sym (length-take-le r xs f.within)

-- the numbers ns before others, if there are others
abbrev pub after : List ℕ → Option (List ℕ) → Option (List ℕ)
after ns None = None
after ns (Some ms) = Some (ns ++ ms)

after_nil : (o : Option (List ℕ)) → after [] o ≡ o
after_nil None = refl
after_nil (Some ns) = refl

after_cons : (ns : List ℕ) (v : ℕ) (o : Option (List ℕ)) → after ns (cons_of (Some v) o) ≡ after (ns ++ (v ∷ [])) o
after_cons ns v None = refl
after_cons ns v (Some ms) = ap Some (sym (append_assoc ns (v ∷ []) ms))

too_many : (w : ℕ) (ns : List ℕ) (n : Option ℕ) (o : Option (List ℕ)) → length ns ≡ most → of_numbers w (after ns (cons_of n o)) ≡ None
too_many w ns None o h = refl
too_many w ns (Some n) None h = refl
too_many w ns (Some n) (Some ms) h =
    let l : leb (length (ns ++ n ∷ ms)) most ≡ false = lt-leb (length (ns ++ n ∷ ms)) most (omega (arith, length-append ns (n ∷ ms))) in rw l

-- the fields behind the word, as the library's `split` gives them
abbrev pub fields_of : List ℕ → List (List ℕ)
fields_of body = drop 1 (slice_split (λ b. eqb b blank) body)

others : (fs : List (List ℕ)) → other_fields fs ≡ drop 1 fs
others [] = refl
others (f ∷ fs) = refl

-- the command with a word of w bytes whose numbers so far are ns, where the other fields are fs
abbrev pub command_from : ℕ → List ℕ → List (List ℕ) → Option Command
command_from w ns fs = of_numbers w (after ns (numbers_of fs))

-- from the first b on a list begins with b, if it has any
index_there : (b : ℕ) (xs : List ℕ) → index_of b (drop (index_of b xs) xs) ≡ 0
unfolding index_of
index_there b [] = refl
index_there b (x ∷ xs) = pick (eqb x b) refl (index_there b xs)
  where
    pick : (t : Bool) → eqb x b ≡ t → index_of b (drop (index_of b xs) xs) ≡ 0 → index_of b (drop (cond t zero (suc (index_of b xs))) (x ∷ xs)) ≡ 0
    pick true e i = rw e refl
    pick false e i = i

-- the fields behind the word are those of the bytes from its end on
rest_fields : (body : List ℕ) → fields_of (drop (index_of blank body) body) ≡ fields_of body
rest_fields body =
    let rest = drop (index_of blank body) body in
    rw (split_is blank rest, split_is blank body, split_first blank rest, split_first blank body, index_there blank body) refl

pub body_start : (body : List ℕ) → body_command_of body ≡ command_from (index_of blank body) [] (fields_of (drop (index_of blank body) body))
unfolding body_command_of
body_start body = rw (rest_fields body, others (split blank body), ← split_is blank body, after_nil)

-- the zeros past the count after one more number
pub zeros_next : (numbers : List ℕ) (count n : ℕ) → count < most → drop count numbers ≡ replicate (most - count) 0 → drop (count + 1) (set numbers count n) ≡ replicate (most - (count + 1)) 0
zeros_next numbers count n h e =
    let k : most - count ≡ suc (most - (count + 1)) = omega arith in
    drop-set-lt (count + 1) numbers count n (omega arith) ∙ sym (drop-drop 1 count numbers) ∙ rw (e, k)

-- a loop over the fields fs: count of them are read as numbers, and make with the others the command o
module _ (o : Option Command) (word : ℕ) (fs : List (List ℕ)) (numbers : List ℕ) (count : ℕ) (so_far : o ≡ command_from word (take count numbers) (drop count fs)) where
  -- the next field
  module _ (f : List ℕ) (h : count < length fs) (at : f ≡ get_or fs count f) where
    one_field : o ≡ of_numbers word (after (take count numbers) (cons_of (field_number f) (numbers_of (drop (suc count) fs))))
    unfolding numbers_of
    one_field = so_far ∙ rw (drop-cons fs count f h, ← at)

    pub body_bad : field_number f ≡ None → None ≡ o
    body_bad e = sym (one_field ∙ rw e)

    pub body_next : (v : ℕ) → field_number f ≡ Some v → count < length numbers → o ≡ command_from word (take (count + 1) (set numbers count v)) (drop (count + 1) fs)
    body_next v e l =
        let t : take (count + 1) (set numbers count v) ≡ take count numbers ++ (v ∷ []) = rw (add-one) (take-suc-set numbers count v l) in
        one_field ∙ rw (e, after_cons (take count numbers) v, t, add-one)

    pub body_full : count ≡ most → length numbers ≡ most → None ≡ o
    body_full k l =
        let e = length-take-le count numbers (omega arith) in
        sym (one_field ∙ too_many word (take count numbers) (field_number f) (numbers_of (drop (suc count) fs)) (omega arith))

  pub body_end : count ≡ length fs → length numbers ≡ most → count ≤ most → drop count numbers ≡ replicate (most - count) 0
      → Some (record { word = word; count = count; numbers = numbers }) ≡ o
  unfolding numbers_of
  body_end h l m z =
      let e : length (take count numbers) ≡ count = length-take-le count numbers (omega arith) in
      let w : take count numbers ++ replicate (most - count) 0 ≡ numbers = rw (← z) (take-append-drop count numbers) in
      let none : drop count fs ≡ [] = drop_of_length-le fs (omega arith) in
      sym (so_far ∙ rw (none, append-nil, e, le-leb count most m, w))

-- the line's first LF, and whether it is the last byte
module _ (line : List ℕ) (end : ℕ) (c : Option Command) (e : FirstIndex lf line end) where
  pub line_ended : end + 1 ≡ length line → c ≡ body_command_of (take end line) → c ≡ command_of line
  unfolding command_of ended_of before_lf
  line_ended h r = rw (← e.index, eq-eqb (end + 1) (length line) h) r

  pub line_invalid : (end + 1 ≡ length line → ⊥) → c ≡ None → c ≡ command_of line
  unfolding command_of ended_of
  line_invalid h r = rw (← e.index, ne_eqb (end + 1) (length line) h) r

-- ---- the word of a command that was read

word_kept : (w : ℕ) (o : Option (List ℕ)) (c : Command) → of_numbers w o ≡ Some c → c.word ≡ w
word_kept w None c e = cc
word_kept w (Some ns) c e = pick (leb (length ns) most) e
  where
    pick : (b : Bool) → cond b (Some (with_numbers w ns)) None ≡ Some c → c.word ≡ w
    pick true e = let d : with_numbers w ns ≡ c = cc in ap (λ (k : Command). k.word) (sym d)
    pick false e = cc

count_kept : (w : ℕ) (o : Option (List ℕ)) (c : Command) → of_numbers w o ≡ Some c → length (take c.count c.numbers) ≡ c.count
count_kept w None c e = cc
count_kept w (Some ns) c e = pick (leb (length ns) most) e
  where
    pick : (b : Bool) → cond b (Some (with_numbers w ns)) None ≡ Some c → length (take c.count c.numbers) ≡ c.count
    pick true e =
        let d : with_numbers w ns ≡ c = cc in
        let n = length-append ns (replicate (most - length ns) 0) in
        rw (← d) (length-take-le (length ns) (ns ++ replicate (most - length ns) 0) (omega arith))
    pick false e = cc

-- the bytes up to the first blank of a line's body
first_field : (line : List ℕ) → take (index_of blank (before_lf line)) line ≡ command_word line
unfolding command_word before_lf
first_field line =
    let body = take (index_of lf line) line in
    let n = index_of blank body in
    let h = index_le blank body in
    let l = length-take (index_of lf line) line in
    sym (rw (split_first blank body) (take-take n (index_of lf line) line (omega arith)))

module _ (line : List ℕ) (c : Command) where
  numbers_made : command_of line ≡ Some c → (o : Option (List ℕ)) × (of_numbers (index_of blank (before_lf line)) o ≡ Some c)
  unfolding command_of body_command_of
  numbers_made e = pick (ended_of line) e
    where
      pick : (b : Bool) → cond b (body_command_of (before_lf line)) None ≡ Some c → (o : Option (List ℕ)) × (of_numbers (index_of blank (before_lf line)) o ≡ Some c)
      pick true e = (numbers_of (other_fields (split blank (before_lf line))), e)
      pick false e = cc

  pub command_word_lem : command_of line ≡ Some c → take c.word line ≡ command_word line
  command_word_lem e =
      let m = numbers_made e in
      ap (λ (n : ℕ). take n line) (word_kept (index_of blank (before_lf line)) m.0 c m.1) ∙ first_field line

  -- the numbers are as many as the count says
  pub command_count : command_of line ≡ Some c → length (take c.count c.numbers) ≡ c.count
  command_count e = let m = numbers_made e in count_kept (index_of blank (before_lf line)) m.0 c m.1

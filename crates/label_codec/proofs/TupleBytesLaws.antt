-- The laws of tuples as bytes.
use mathlib.Core.Bool.{Bool, true, false, cond}
use mathlib.Core.List.{List, [], ◌∷◌, ◌++◌, reverse}
use mathlib.Core.Logic.{⊎_elim}
use mathlib.Core.Path.{◌≡◌, refl, sym, ap, ap₂, ◌∙◌}
use Prim.Native.Nat.{ℕ, zero, suc, ◌+◌, ◌*◌, ◌/◌, ◌%◌, ◌^◌, ◌≤◌, ◌<◌}
use native.Mathlib.Nat.{add-mul, add-zero, zero-add, eq-or-lt_of_le, mod-lt, mul-le-mul_right, one-mul, suc-mul, zero-lt-suc, zero-mul}
use native.Mathlib.Numerals.{add-one}
use native.Mathlib.Omega.{arith}
use lib.Bits.{bit_or}
use lib.Dec.{eqb}
use borrow.Author.Tests.{eqb-true}
use lib.ListN.{length, take, length-append}
use lib.Seq.{ext_get_or, take_all}
use Rattle.std.specs.List.{count_by, fold, range_with_len, sum_by}
use Rattle.std.proofs.lemmas.List.Sums.{sum_by_more}
use Rattle.common.specs.Index.{tabulate}
use Rattle.label.specs.Region.{regions}
use Rattle.label.specs.Words.{bit, words}
use Rattle.common.proofs.IndexLaws.{every_all, tabulate_at, tabulate_is, tabulate_length}
use Rattle.range.specs.Range
use Rattle.range.specs.Tuple
use Rattle.range.specs.declared.Range.{Range}
use Rattle.range.specs.declared.tuple.RegionRange.{RegionRange}
use Rattle.range.specs.declared.tuple.Tuple.{Tuple}
use Rattle.range.proofs.TupleLaws.{range_of_lem, valid_absent, valid_placed, valid_region}
use Rattle.common.proofs.BytesLaws.{Bytes, bytes_append}
use Rattle.label_codec.specs.Body.{base_number, range_at, range_bytes, range_size}
use Rattle.label_codec.specs.Codec.{range_fits, region_fits, tuple_code, tuple_fits}
use Rattle.label_codec.specs.Tuples.{presence_of, present_at, present_below, region_at, region_bytes, regions_bytes, tuple_at}
use Rattle.label_codec.proofs.BodyLaws.{Holds, Within, holds_first, holds_second, part, parts_join, range_back, range_bytes_lem, range_forth, range_length}
use Rattle.label_codec.proofs.BodyLoops.{Same, same_later, same_range, valid_range_fits}
use Rattle.label_codec.proofs.NumberLaws.{as_number, number_bound, number_digit, number_only}

-- ---- one region

pub region_there : (w : ℕ) (e : RegionRange) → Tuple.is_there e ≡ true → region_bytes w e ≡ range_bytes w e.range
unfolding region_bytes
region_there w e h = rw h

pub region_none : (w : ℕ) (e : RegionRange) → Tuple.is_there e ≡ false → region_bytes w e ≡ []
unfolding region_bytes
region_none w e h = rw h

pub regions_next : (w : ℕ) (t : Tuple) (n : ℕ) → regions_bytes w t (n + 1) ≡ regions_bytes w t n ++ region_bytes w (Tuple.region_range_at t n)
unfolding regions_bytes
regions_next w t n = rw add-one

pub below_next : (p n : ℕ) → present_below p n + cond (bit p n) 1 0 ≡ present_below p (n + 1)
unfolding present_below
below_next p n = rw add-one

-- those that are there are counted from the first on
counted_from : (p a n : ℕ) → fold (λ (k x : ℕ). k + cond (bit p x) 1 0) (present_below p a) (range_with_len a n) ≡ present_below p (a + n)
counted_from p a zero = ap (present_below p) (sym (add-zero a))
counted_from p a (suc n) =
    ap (λ (k : ℕ). fold (λ (k x : ℕ). k + cond (bit p x) 1 0) k (range_with_len (a + 1) n)) (below_next p a)
    ∙ counted_from p (a + 1) n ∙ ap (present_below p) {x = a + 1 + n} {y = a + suc n} (omega arith)

pub below_counted : (p n : ℕ) → count_by (bit p) (range_with_len 0 n) ≡ present_below p n
unfolding present_below
below_counted p n = counted_from p 0 n ∙ ap (present_below p) (zero-add n)

-- ---- sizes

-- a region is there or not
by_present : {A : Type 0} (b : Bool) → (b ≡ true → A) → (b ≡ false → A) → A
by_present true f g = f refl
by_present false f g = g refl

region_size : (w : ℕ) (e : RegionRange) → length (region_bytes w e) ≡ cond (Tuple.is_there e) 1 0 * range_size w
region_size w e =
    by_present (Tuple.is_there e) (λ h. ap length (region_there w e h) ∙ range_length w e.range ∙ sym (ap (λ (b : Bool). cond b 1 0 * range_size w) h ∙ omega arith))
    (λ h. ap length (region_none w e h) ∙ sym (ap (λ (b : Bool). cond b 1 0 * range_size w) h ∙ omega arith))

pub one_of : (b : Bool) → cond b 1 0 ≤ 1
one_of true = omega arith
one_of false = omega arith

pub regions_size : (w : ℕ) (t : Tuple) (n : ℕ) → length (regions_bytes w t n) ≤ n * range_size w
unfolding regions_bytes
regions_size w t zero = omega arith
regions_size w t (suc n) =
    let ih : length (regions_bytes w t n) ≤ n * range_size w = regions_size w t n in
    let a = length-append (regions_bytes w t n) (region_bytes w (Tuple.region_range_at t n)) in
    let e = region_size w (Tuple.region_range_at t n) in
    let m : cond (Tuple.is_there (Tuple.region_range_at t n)) 1 0 * range_size w ≤ 1 * range_size w = mul-le-mul_right (range_size w) (one_of (Tuple.is_there (Tuple.region_range_at t n))) in
    let s = suc-mul n (range_size w) in
    omega arith

-- what each has, put together
summed_below : (w : ℕ) (t : Tuple) (n : ℕ) → n ≤ length t.ranges → sum_by (λ (e : RegionRange). length (region_bytes w e)) (take n t.ranges) ≡ length (regions_bytes w t n)
unfolding regions_bytes
summed_below w t zero h = refl
summed_below w t (suc n) h =
    rw (← add-one n) (sum_by_more (λ (e : RegionRange). length (region_bytes w e)) t.ranges n _ (omega arith))
    ∙ ap (λ (k : ℕ). k + length (region_bytes w (Tuple.region_range_at t n))) (summed_below w t n (omega arith))
    ∙ sym (length-append (regions_bytes w t n) (region_bytes w (Tuple.region_range_at t n)))

pub regions_summed : (w : ℕ) (t : Tuple) → length t.ranges ≡ regions → sum_by (λ (e : RegionRange). length (region_bytes w e)) t.ranges ≡ length (regions_bytes w t regions)
regions_summed w t e =
    ap (sum_by (λ (e : RegionRange). length (region_bytes w e))) (sym (take_all regions t.ranges (omega arith))) ∙ summed_below w t regions (omega arith)

-- where all are there, exactly
pub regions_full : (w : ℕ) (t : Tuple) (n : ℕ) → ((r : ℕ) → r < n → Tuple.is_there (Tuple.region_range_at t r) ≡ true) → length (regions_bytes w t n) ≡ n * range_size w
unfolding regions_bytes
regions_full w t zero h = sym (zero-mul (range_size w))
regions_full w t (suc n) h =
    let ih : length (regions_bytes w t n) ≡ n * range_size w = regions_full w t n (λ r l. h r (omega arith)) in
    let a = length-append (regions_bytes w t n) (region_bytes w (Tuple.region_range_at t n)) in
    let e = rw (h n (omega arith)) at (region_size w (Tuple.region_range_at t n)) in
    let o = one-mul (range_size w) in
    let s = suc-mul n (range_size w) in
    omega arith

-- the bytes of fewer regions are no more
regions_within : (w : ℕ) (t : Tuple) (m n : ℕ) → m ≤ n → length (regions_bytes w t m) ≤ length (regions_bytes w t n)
unfolding regions_bytes
regions_within w t m zero h = let e : m ≡ 0 = omega arith in rw e (omega arith)
regions_within w t m (suc n) h =
    ⊎_elim (λ e. rw e (omega arith))
    (λ l. let ih : length (regions_bytes w t m) ≤ length (regions_bytes w t n) = regions_within w t m n (omega arith) in
    let a = length-append (regions_bytes w t n) (region_bytes w (Tuple.region_range_at t n)) in omega arith) (eq-or-lt_of_le h)

-- there is room for one more
pub regions_room : (w : ℕ) (t : Tuple) (r : ℕ) → r < regions → length (regions_bytes w t r ++ region_bytes w (Tuple.region_range_at t r)) ≤ length (regions_bytes w t regions)
regions_room w t r h = rw (← regions_next w t r) (regions_within w t (r + 1) regions (omega arith))

below_mono : (p m n : ℕ) → m ≤ n → present_below p m ≤ present_below p n
unfolding present_below
below_mono p m zero h = let e : m ≡ 0 = omega arith in rw e (omega arith)
below_mono p m (suc n) h =
    ⊎_elim (λ e. rw e (omega arith)) (λ l. let ih : present_below p m ≤ present_below p n = below_mono p m n (omega arith) in omega arith) (eq-or-lt_of_le h)

-- no more regions are there than there are
pub below_most : (p n : ℕ) → present_below p n ≤ n
unfolding present_below
below_most p zero = omega arith
below_most p (suc n) = go (bit p n) (below_most p n)
  where
    go : (b : Bool) → present_below p n ≤ n → present_below p n + cond b 1 0 ≤ suc n
    go true h = omega arith
    go false h = omega arith

-- a region that is there has room for its range
pub one_more : (k n s : ℕ) → k < n → k * s + s ≤ n * s
one_more k n s h =
    let m : suc k * s ≤ n * s = mul-le-mul_right s h in
    let q = suc-mul k s in
    omega arith

pub present_room : (p r n s : ℕ) → r < n → bit p r ≡ true → present_below p r * s + s ≤ present_below p n * s
present_room p r n s h e =
    let one : ◌≡◌ {A = ℕ} (cond (bit p r) 1 0) 1 = ap (λ (b : Bool). cond b 1 0) e in
    let k : present_below p (r + 1) ≤ present_below p n = below_mono p (r + 1) n (omega arith) in
    let b = below_next p r in
    one_more (present_below p r) (present_below p n) s (omega arith)

-- ---- the byte of presence

pub present_small : (t : Tuple) (r : ℕ) → present_at t r < 2
present_small t r = let one = one_of (Tuple.is_there (Tuple.region_range_at t r)) in omega arith

pub presence_small : (t : Tuple) → presence_of t < 8
unfolding presence_of
presence_small t = number_bound 2 (present_at t) (present_small t) 0 regions

as_bit : (b : Bool) → eqb (cond b 1 0) 1 ≡ b
as_bit true = refl
as_bit false = refl

-- from the last region to the first: what there is so far is doubled, and one bit more is put in
abbrev pub with_bit : ℕ → RegionRange → ℕ
with_bit p e = bit_or (p * 2 % 256) (cond (Tuple.is_there e) 1 0)

pub presence_folded : (xs : List RegionRange) → length xs ≡ regions → fold with_bit 0 (reverse xs) ≡ presence_of (Tuple.tuple_of xs)
unfolding presence_of base_number
presence_folded [] h = absurd (omega arith)
presence_folded (a ∷ []) h = absurd (omega arith)
presence_folded (a ∷ b ∷ []) h = absurd (omega arith)
presence_folded (a ∷ b ∷ c ∷ d ∷ xs) h = absurd (omega arith)
presence_folded (a ∷ b ∷ c ∷ []) h = go (Tuple.is_there a) (Tuple.is_there b) (Tuple.is_there c)
  where
    go : (x y z : Bool) → bit_or (bit_or (bit_or (0 * 2 % 256) (cond z 1 0) * 2 % 256) (cond y 1 0) * 2 % 256) (cond x 1 0) ≡ cond x 1 0 + 2 * (cond y 1 0 + 2 * (cond z 1 0 + 2 * 0))
    go true true true = refl
    go true true false = refl
    go true false true = refl
    go true false false = refl
    go false true true = refl
    go false true false = refl
    go false false true = refl
    go false false false = refl

presence_bit : (t : Tuple) (r : ℕ) → r < regions → bit (presence_of t) r ≡ Tuple.is_there (Tuple.region_range_at t r)
unfolding bit presence_of
presence_bit t r h =
    ap (λ (x : ℕ). eqb x 1) (number_digit 2 (present_at t) (present_small t) 0 regions r h ∙ ap (present_at t) (omega arith)) ∙ as_bit (Tuple.is_there (Tuple.region_range_at t r))

presence_below : (w : ℕ) (t : Tuple) (n : ℕ) → n ≤ regions → length (regions_bytes w t n) ≡ present_below (presence_of t) n * range_size w
unfolding regions_bytes present_below
presence_below w t zero h = sym (zero-mul (range_size w))
presence_below w t (suc n) h =
    length-append (regions_bytes w t n) (region_bytes w (Tuple.region_range_at t n))
    ∙ ap₂ ◌+◌ (presence_below w t n (omega arith)) (region_size w (Tuple.region_range_at t n) ∙ ap (λ (b : Bool). cond b 1 0 * range_size w) (sym (presence_bit t n h)))
    ∙ sym (add-mul (present_below (presence_of t) n) (cond (bit (presence_of t) n) 1 0) (range_size w))

pub presence_size : (w : ℕ) (t : Tuple) → length (regions_bytes w t regions) ≡ present_below (presence_of t) regions * range_size w
presence_size w t = presence_below w t regions (omega arith)

-- ---- the bytes of a tuple read back as the tuple

-- every category of a tuple's labels stands in the bytes of w words
abbrev pub WithinTuple : ℕ → Tuple → Type 0
WithinTuple w t = (r : ℕ) → r < regions → Within w (Tuple.region_range_at t r).range.low × Within w (Tuple.region_range_at t r).range.high

region_bytes_lem : (w : ℕ) (e : RegionRange) → (Tuple.is_there e ≡ true → Range.valid_of e.range ≡ true) → Bytes (region_bytes w e)
region_bytes_lem w e v =
    by_present (Tuple.is_there e) (λ h. rw (region_there w e h) (range_bytes_lem w e.range (v h))) (λ h. rw (region_none w e h) (λ i. omega arith))

-- the range of a region that is there is valid
pub present_valid : (t : Tuple) → Tuple.valid_of t ≡ true → (r : ℕ) → r < regions → Tuple.is_there (Tuple.region_range_at t r) ≡ true → Range.valid_of (Tuple.region_range_at t r).range ≡ true
present_valid t v r l p = (valid_placed r (Tuple.region_range_at t r) p (valid_region t v r l)).valid

pub regions_bytes_lem : (w : ℕ) (t : Tuple) → Tuple.valid_of t ≡ true → (n : ℕ) → n ≤ regions → Bytes (regions_bytes w t n)
unfolding regions_bytes
regions_bytes_lem w t v zero h = λ i. omega arith
regions_bytes_lem w t v (suc n) h =
    bytes_append (regions_bytes w t n) (region_bytes w (Tuple.region_range_at t n)) (regions_bytes_lem w t v n (omega arith)) (region_bytes_lem w (Tuple.region_range_at t n) (present_valid t v n h))

-- the regions below n stand first
holds_below : (w : ℕ) (t : Tuple) (bs : List ℕ) (i m n : ℕ) → m ≤ n → Holds bs i (regions_bytes w t n) → Holds bs i (regions_bytes w t m)
unfolding regions_bytes
holds_below w t bs i m zero l h = let e : m ≡ 0 = omega arith in rw e h
holds_below w t bs i m (suc n) l h =
    ⊎_elim (λ e. rw e h) (λ q. holds_below w t bs i m n (omega arith) (holds_first bs i (regions_bytes w t n) (region_bytes w (Tuple.region_range_at t n)) h)) (eq-or-lt_of_le l)

module _ (w : ℕ) (t : Tuple) (bs : List ℕ) (i : ℕ) (ty : Tuple.TypedTuple t) (within : WithinTuple w t) (valid : Tuple.valid_of t ≡ true)
    (h : Holds bs i (regions_bytes w t regions)) where
  region_back : (r : ℕ) → r < regions → region_at w bs (presence_of t) i r ≡ Tuple.region_range_at t r
  unfolding region_at
  region_back r l = by_present (Tuple.is_there e) there none
    where
      e : RegionRange
      e = Tuple.region_range_at t r

      same : bit (presence_of t) r ≡ Tuple.is_there e
      same = presence_bit t r l

      here : Holds bs (i + present_below (presence_of t) r * range_size w) (region_bytes w e)
      here =
          holds_second bs i (i + present_below (presence_of t) r * range_size w) (regions_bytes w t r) (region_bytes w e) (ap (λ (n : ℕ). i + n) (sym (presence_below w t r (omega arith))))
          (rw (← regions_next w t r) (holds_below w t bs i (r + 1) regions (omega arith) h))

      there : Tuple.is_there e ≡ true → region_at w bs (presence_of t) i r ≡ e
      there p =
          let x = range_back w bs (i + present_below (presence_of t) r * range_size w) e.range (rw (region_there w e p) at here) (ty.range r l) (within r l).0 (within r l).1 in
          ap (λ (b : Bool). cond b (Tuple.present (range_at w bs (i + present_below (presence_of t) r * range_size w))) Tuple.absent) (same ∙ p)
          ∙ ap₂ (λ (n : ℕ) (y : Range). record { present = n; range = y }) (sym (eqb-true e.present 1 p)) x

      none : Tuple.is_there e ≡ false → region_at w bs (presence_of t) i r ≡ e
      none p =
          ap (λ (b : Bool). cond b (Tuple.present (range_at w bs (i + present_below (presence_of t) r * range_size w))) Tuple.absent) (same ∙ p)
          ∙ sym (valid_absent r e (ty.range r l) p (valid_region t valid r l))

  pub tuple_back : tuple_at w bs (presence_of t) i ≡ t
  unfolding tuple_at
  tuple_back =
      ap Tuple.tuple_of
      (ext_get_or _ (tabulate (region_at w bs (presence_of t) i) regions) t.ranges (tabulate_length (region_at w bs (presence_of t) i) regions ∙ sym ty.length_is)
      (λ r l. let k : r < regions = omega (arith, tabulate_length (region_at w bs (presence_of t) i) regions) in tabulate_at (region_at w bs (presence_of t) i) regions r _ k ∙ region_back r k))

-- ---- a tuple that is read is written as the bytes that it was read from

module _ (w : ℕ) (bs : List ℕ) (p i : ℕ) where
  at_region : (r : ℕ) → r < regions → Tuple.region_range_at (tuple_at w bs p i) r ≡ region_at w bs p i r
  unfolding tuple_at
  at_region r h = range_of_lem (region_at w bs p i) r h

  region_present : (r : ℕ) → Tuple.is_there (region_at w bs p i r) ≡ bit p r
  unfolding region_at
  region_present r = by_present (bit p r) (λ e. rw e) (λ e. rw e)

  pub presence_forth : p < 8 → presence_of (tuple_at w bs p i) ≡ p
  unfolding presence_of bit
  presence_forth h =
      number_only 2 (present_at (tuple_at w bs p i)) (zero-lt-suc 1) 0 regions p
      (λ r l. ap (present_at (tuple_at w bs p i)) (omega arith) ∙ ap (λ (e : RegionRange). cond (Tuple.is_there e) 1 0) (at_region r l)
      ∙ ap (λ (b : Bool). cond b 1 0) (region_present r) ∙ as_number (p / 2 ^ r % 2) (mod-lt (p / 2 ^ r) (zero-lt-suc 1)))
      h

  region_forth : Bytes bs → w ≤ words → (r : ℕ) → r < regions → i + present_below p regions * range_size w ≤ length bs
      → region_bytes w (region_at w bs p i r) ≡ part (i + present_below p r * range_size w) (cond (bit p r) 1 0 * range_size w) bs
  unfolding region_at
  region_forth small fits r l room = by_present (bit p r) there none
    where
      at : ℕ
      at = i + present_below p r * range_size w

      there : bit p r ≡ true → region_bytes w (region_at w bs p i r) ≡ part at (cond (bit p r) 1 0 * range_size w) bs
      there e =
          let k = present_room p r regions (range_size w) l e in
          let whole : ◌≡◌ {A = ℕ} (cond (bit p r) 1 0 * range_size w) (range_size w) = ap (λ (b : Bool). cond b 1 0 * range_size w) e ∙ omega arith in
          ap (λ (b : Bool). region_bytes w (cond b (Tuple.present (range_at w bs at)) Tuple.absent)) e
          ∙ region_there w (Tuple.present (range_at w bs at)) refl ∙ range_forth w bs at small fits (omega arith)
          ∙ ap (λ (n : ℕ). part at n bs) (sym whole)

      none : bit p r ≡ false → region_bytes w (region_at w bs p i r) ≡ part at (cond (bit p r) 1 0 * range_size w) bs
      none e =
          let nothing : ◌≡◌ {A = ℕ} (cond (bit p r) 1 0 * range_size w) 0 = ap (λ (b : Bool). cond b 1 0 * range_size w) e ∙ omega arith in
          ap (λ (b : Bool). region_bytes w (cond b (Tuple.present (range_at w bs at)) Tuple.absent)) e
          ∙ region_none w Tuple.absent refl ∙ ap (λ (n : ℕ). part at n bs) (sym nothing)

  pub regions_forth : Bytes bs → w ≤ words → i + present_below p regions * range_size w ≤ length bs → (n : ℕ) → n ≤ regions
      → regions_bytes w (tuple_at w bs p i) n ≡ part i (present_below p n * range_size w) bs
  unfolding regions_bytes present_below
  regions_forth small fits room zero h = ap (λ (n : ℕ). part i n bs) (sym (zero-mul (range_size w)))
  regions_forth small fits room (suc n) h =
      ap₂ ◌++◌ (regions_forth small fits room n (omega arith)) (ap (region_bytes w) (at_region n h) ∙ region_forth small fits n h room)
      ∙ parts_join i (present_below p n * range_size w) (cond (bit p n) 1 0 * range_size w) bs
      ∙ ap (λ (m : ℕ). part i m bs) (sym (add-mul (present_below p n) (cond (bit p n) 1 0) (range_size w)))

-- ---- what fits its bytes

pub valid_tuple_fits : (t : Tuple) → Tuple.valid_of t ≡ true → tuple_fits t ≡ true
valid_tuple_fits t v = every_all (λ r. region_fits (Tuple.region_range_at t r)) regions (λ r l. go r (present_valid t v r l) (Tuple.is_there (Tuple.region_range_at t r)) refl)
  where
    go : (r : ℕ) → (Tuple.is_there (Tuple.region_range_at t r) ≡ true → Range.valid_of (Tuple.region_range_at t r).range ≡ true) → (b : Bool) → Tuple.is_there (Tuple.region_range_at t r) ≡ b
        → cond b (range_fits (Tuple.region_range_at t r).range) true ≡ true
    go r h true e = valid_range_fits (Tuple.region_range_at t r).range (h e)
    go r h false e = refl

pub tuple_coded : (w : ℕ) (t : Tuple) → Tuple.valid_of t ≡ true → tuple_code w t ≡ presence_of t ∷ regions_bytes w t regions
unfolding tuple_code
tuple_coded w t v = rw (valid_tuple_fits t v)

-- ---- the tuple is the same where the bytes are

pub same_tuple : (w : ℕ) (xs ys : List ℕ) (p i j : ℕ) → Same xs i ys j → tuple_at w xs p i ≡ tuple_at w ys p j
unfolding tuple_at region_at
same_tuple w xs ys p i j h =
    ap Tuple.tuple_of (tabulate_is (region_at w ys p j) (tabulate (region_at w xs p i) regions) regions Tuple.absent (tabulate_length (region_at w xs p i) regions)
    (λ r l. tabulate_at (region_at w xs p i) regions r Tuple.absent l ∙ ap (λ (x : Range). cond (bit p r) (Tuple.present x) Tuple.absent)
    (same_range xs ys w (i + present_below p r * range_size w) (j + present_below p r * range_size w) (same_later xs ys i j (present_below p r * range_size w) h))))

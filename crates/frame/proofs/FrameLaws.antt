-- The laws of the frame, for a body of any bytes: a frame reads back as its body, a line that is a frame is its body's, and a line with one
-- digit changed is no frame.
use Rattle.std.proofs.Common.{◌≡◌, ℕ, zero, suc, ◌+◌, ◌-◌, ◌*◌, ◌/◌, ◌%◌, ◌<◌, ◌≤◌, Bool, true, false, ◌&&◌, eqb, leb, ◌⊎◌, ◌↔◌, List, [], ◌∷◌, ◌++◌, length, get_or, take, set, sym, refl, ap, ◌∙◌, ap₂, inl, inr, ⊎_elim, true≢false, arith, length-append, length-set, length-take, take_all, get_or-set_other, take-suc, get_or-set_same, take_at, ext_get_or, le-ltb, lt-ltb, eq-eqb, eqb-true, le-leb, leb-true}
use lib.ListN.{get_or-eq_default}
use lib.Seq.{set-get_or}
use borrow.Author.Tests.{eqb-false}
use Rattle.common.specs.Answer.{Answer, granted}
use Rattle.common.proofs.BytesLaws.{Bytes, bytes_append, bytes_take, cons_bytes}
use Rattle.common.proofs.BoolLaws.{both, either, first_true, not_so, or_first, or_second, second_true, three_true}
use Rattle.common.proofs.IndexLaws.{le_or_lt}
use Rattle.frame.specs.Frame.{body_of, bytes_of, check_byte, digit_of, digits_of, frame_of, framed_of, is_digit, read_body, spelled_of, sum_of, digit_value}

-- ---- digits

low_digit : (c : ℕ) → 48 ≤ c → c ≤ 57 → (is_digit c ≡ true) × (digit_value c ≡ c - 48)
unfolding is_digit digit_value
low_digit c l h = let e = or_first (leb 97 c && leb c 102) (both (le-leb 48 c l) (le-leb c 57 h)) in let q : c / 64 ≡ 0 = omega arith in (e, rw q (omega arith))

high_digit : (c : ℕ) → 97 ≤ c → c ≤ 102 → (is_digit c ≡ true) × (digit_value c ≡ c - 87)
unfolding is_digit digit_value
high_digit c l h =
    let e = or_second (leb 48 c && leb c 57) (both (le-leb 97 c l) (le-leb c 102 h)) in
    let q : c / 64 ≡ 1 = omega arith in
    (e, rw q (omega arith))

between : (a b c : ℕ) → (leb a c && leb c b) ≡ true → (a ≤ c) × (c ≤ b)
between a b c e = (leb-true a c (first_true (leb a c) (leb c b) e), leb-true c b (second_true (leb a c) (leb c b) e))

digit_cases : (c : ℕ) → is_digit c ≡ true → ((48 ≤ c) × (c ≤ 57)) ⊎ ((97 ≤ c) × (c ≤ 102))
unfolding is_digit
digit_cases c e = ⊎_elim (λ h. inl (between 48 57 c h)) (λ h. inr (between 97 102 c h)) (either (leb 48 c && leb c 57) (leb 97 c && leb c 102) e)

pub value_small : (c : ℕ) → digit_value c < 16
unfolding digit_value
value_small c = omega arith

spell_low : (n : ℕ) → n < 10 → digit_of n ≡ 48 + n
unfolding digit_of
spell_low n h = rw (lt-ltb n 10 h)

spell_high : (n : ℕ) → 10 ≤ n → digit_of n ≡ 87 + n
unfolding digit_of
spell_high n h = rw (le-ltb n 10 h)

-- a digit by arithmetic alone
pub digit_by : (n : ℕ) → n < 16 → 48 + n + 39 * (n / 10) ≡ digit_of n
digit_by n h = ⊎_elim (λ l. omega arith ∙ sym (spell_high n l)) (λ l. omega arith ∙ sym (spell_low n l)) (le_or_lt 10 n)

-- c is the digit of n exactly if it is a digit, with the number n: the one law of digits, both ways
pub digit_exact : (n c : ℕ) → n < 16 → (digit_of n ≡ c) ↔ ((is_digit c ≡ true) × (digit_value c ≡ n))
digit_exact n c h = (to (le_or_lt 10 n), from)
  where
    to : (10 ≤ n) ⊎ (n < 10) → digit_of n ≡ c → (is_digit c ≡ true) × (digit_value c ≡ n)
    to (inl l) e = let f : c ≡ 87 + n = sym e ∙ spell_high n l in let d = high_digit c (omega arith) (omega arith) in (d.0, d.1 ∙ omega arith)
    to (inr l) e = let f : c ≡ 48 + n = sym e ∙ spell_low n l in let d = low_digit c (omega arith) (omega arith) in (d.0, d.1 ∙ omega arith)

    from : (is_digit c ≡ true) × (digit_value c ≡ n) → digit_of n ≡ c
    from p =
        ⊎_elim
        (λ s. let v = (low_digit c s.0 s.1).1 in let e = p.1 in spell_low n (omega arith) ∙ omega arith)
        (λ s. let v = (high_digit c s.0 s.1).1 in let e = p.1 in spell_high n (omega arith) ∙ omega arith)
        (digit_cases c p.0)

pub digit_back : (n : ℕ) → n < 16 → (is_digit (digit_of n) ≡ true) × (digit_value (digit_of n) ≡ n)
digit_back n h = (digit_exact n (digit_of n) h).0 refl

pub digit_forth : (c : ℕ) → is_digit c ≡ true → digit_of (digit_value c) ≡ c
digit_forth c e = (digit_exact (digit_value c) c (value_small c)).1 (e, refl)

-- ---- sums

pub sum_append : (a b : List ℕ) → sum_of (a ++ b) ≡ sum_of a + sum_of b
unfolding sum_of
sum_append [] b = omega arith
sum_append (x ∷ a) b = let ih = sum_append a b in omega arith

pub sum_one : (b : ℕ) → sum_of (b ∷ []) ≡ b
unfolding sum_of
sum_one b = omega arith

pub sum_take : (l : List ℕ) (j : ℕ) → j < length l → sum_of (take (suc j) l) ≡ sum_of (take j l) + get_or l j 0
sum_take l j h = ap sum_of (take-suc l j 0 h) ∙ sum_append (take j l) (get_or l j 0 ∷ []) ∙ ap (λ (n : ℕ). sum_of (take j l) + n) (sum_one (get_or l j 0))

sum_set : (l : List ℕ) (k v : ℕ) → k < length l → sum_of (set l k v) + get_or l k 0 ≡ sum_of l + v
unfolding sum_of
sum_set [] k v h = absurd (omega arith)
sum_set (x ∷ l) zero v h = omega arith
sum_set (x ∷ l) (suc k) v h = let ih = sum_set l k v (omega arith) in omega arith

-- ---- the digits of bytes

pub digits_append : (a b : List ℕ) → digits_of (a ++ b) ≡ digits_of a ++ digits_of b
unfolding digits_of
digits_append [] b = refl
digits_append (x ∷ a) b = ap (λ (l : List ℕ). digit_of (x / 16) ∷ digit_of (x % 16) ∷ l) (digits_append a b)

pub digits_length : (bs : List ℕ) → length (digits_of bs) ≡ 2 * length bs
unfolding digits_of
digits_length [] = refl
digits_length (b ∷ bs) = let ih = digits_length bs in omega arith

-- ---- the bytes of a line

pub bytes_small : (line : List ℕ) → Bytes (bytes_of line)
unfolding bytes_of
bytes_small [] i = omega arith
bytes_small (c ∷ []) i = omega arith
bytes_small (h ∷ l ∷ rest) zero = let a = value_small h in let b = value_small l in omega arith
bytes_small (h ∷ l ∷ rest) (suc i) = bytes_small rest i

pub bytes_length : (line : List ℕ) → length (bytes_of line) ≡ length line / 2
unfolding bytes_of
bytes_length [] = refl
bytes_length (c ∷ []) = refl
bytes_length (h ∷ l ∷ rest) = let ih = bytes_length rest in omega arith

pub bytes_at : (line : List ℕ) (i : ℕ) → i < length line / 2 → get_or (bytes_of line) i 0 ≡ digit_value (get_or line (2 * i) 0) * 16 + digit_value (get_or line (2 * i + 1) 0)
unfolding bytes_of
bytes_at [] i h = absurd (omega arith)
bytes_at (c ∷ []) i h = absurd (omega arith)
bytes_at (a ∷ b ∷ rest) zero h = refl
bytes_at (a ∷ b ∷ rest) (suc i) h =
    let e : 2 * suc i ≡ suc (suc (2 * i)) = omega arith in
    let f : 2 * suc i + 1 ≡ suc (suc (2 * i + 1)) = omega arith in
    bytes_at rest i (omega arith) ∙ ap₂ (λ (x y : ℕ). digit_value (get_or (a ∷ b ∷ rest) x 0) * 16 + digit_value (get_or (a ∷ b ∷ rest) y 0)) (sym e) (sym f)

-- digits read back as their bytes
pub spelled_back : (bs : List ℕ) → Bytes bs → (spelled_of (digits_of bs ++ (10 ∷ [])) ≡ true) × (bytes_of (digits_of bs ++ (10 ∷ [])) ≡ bs)
unfolding digits_of spelled_of bytes_of
spelled_back [] h = (refl, refl)
spelled_back (b ∷ bs) h =
    let s = h 0 in
    let d = digit_back (b / 16) (omega arith) in
    let e = digit_back (b % 16) (omega arith) in
    let ih = spelled_back bs (λ i. h (suc i)) in
    (both (both d.0 e.0) ih.0, ap₂ ◌∷◌ (ap₂ (λ (x y : ℕ). x * 16 + y) d.1 e.1 ∙ omega arith) ih.1)

-- a line that is spelled in digits is spelled as its bytes are
pub spelled_forth : (line : List ℕ) → spelled_of line ≡ true → digits_of (bytes_of line) ++ (10 ∷ []) ≡ line
unfolding digits_of spelled_of bytes_of
spelled_forth [] e = absurd (true≢false (sym e))
spelled_forth (c ∷ []) e = ap (λ (x : ℕ). x ∷ []) (sym (eqb-true c 10 e))
spelled_forth (h ∷ l ∷ rest) e =
    let t = three_true (is_digit h) (is_digit l) (spelled_of rest) e in
    let a = value_small h in
    let b = value_small l in
    let high : (digit_value h * 16 + digit_value l) / 16 ≡ digit_value h = omega arith in
    let low : (digit_value h * 16 + digit_value l) % 16 ≡ digit_value l = omega arith in
    ap₂ ◌∷◌ (ap digit_of high ∙ digit_forth h t.0) (ap₂ ◌∷◌ (ap digit_of low ∙ digit_forth l t.1) (spelled_forth rest t.2))

-- ---- the frame

check_sum : (body : List ℕ) → sum_of (body ++ (check_byte body ∷ [])) % 256 ≡ 0
unfolding check_byte
check_sum body = let s = sum_append body (check_byte body ∷ []) in let o = sum_one (check_byte body) in omega arith

check_small : (body : List ℕ) → check_byte body < 256
unfolding check_byte
check_small body = omega arith

check_only : (body : List ℕ) (c : ℕ) → c < 256 → sum_of (body ++ (c ∷ [])) % 256 ≡ 0 → c ≡ check_byte body
unfolding check_byte
check_only body c h e = let s = sum_append body (c ∷ []) in let o = sum_one c in omega arith

length_more : (bs : List ℕ) (b : ℕ) → length (bs ++ (b ∷ [])) ≡ length bs + 1
length_more bs b = length-append bs (b ∷ [])

pub frame_length : (body : List ℕ) → length (frame_of body) ≡ 2 * length body + 3
unfolding frame_of
frame_length body =
    let a = length-append (digits_of (body ++ (check_byte body ∷ []))) (10 ∷ []) in
    let d = digits_length (body ++ (check_byte body ∷ [])) in
    let m = length_more body (check_byte body) in
    omega arith

-- a frame reads back as its body
pub frame_back : (body : List ℕ) → Bytes body → (framed_of (frame_of body) ≡ true) × (body_of (frame_of body) ≡ body)
unfolding frame_of framed_of body_of
frame_back body h =
    let bs = body ++ (check_byte body ∷ []) in
    let r = spelled_back bs (bytes_append body (check_byte body ∷ []) h (cons_bytes (check_byte body) [] (check_small body) (λ i. omega arith))) in
    let m = length_more body (check_byte body) in
    let n : length bs - 1 ≡ length body = omega arith in (
      rw r.1 (both (both r.0 (le-leb 1 (length bs) (omega arith))) (eq-eqb (sum_of bs % 256) 0 (check_sum body))),
      rw (r.1, n) (take_at body (check_byte body ∷ []) (length body) refl),
    )

pub framed_parts : (line : List ℕ) → framed_of line ≡ true → (spelled_of line ≡ true) × (1 ≤ length (bytes_of line)) × (sum_of (bytes_of line) % 256 ≡ 0)
unfolding framed_of
framed_parts line e =
    let t = three_true (spelled_of line) (leb 1 (length (bytes_of line))) (eqb (sum_of (bytes_of line) % 256) 0) e in
    (t.0, leb-true 1 (length (bytes_of line)) t.1, eqb-true (sum_of (bytes_of line) % 256) 0 t.2)

-- a line that is a frame is its body's
pub frame_forth : (line : List ℕ) → framed_of line ≡ true → line ≡ frame_of (body_of line)
unfolding frame_of body_of
frame_forth line e =
    let p = framed_parts line e in
    let bs = bytes_of line in
    let n = length bs - 1 in
    let h = p.1 in
    let all : bs ≡ take n bs ++ (get_or bs n 0 ∷ []) = sym (take_all (suc n) bs (omega arith)) ∙ take-suc bs n 0 (omega arith) in
    let c : get_or bs n 0 ≡ check_byte (take n bs) = check_only (take n bs) (get_or bs n 0) (bytes_small line n) (ap (λ (l : List ℕ). sum_of l % 256) (sym all) ∙ p.2) in
    sym (spelled_forth line p.0) ∙ ap (λ (l : List ℕ). digits_of l ++ (10 ∷ [])) (all ∙ ap (λ (b : ℕ). take n bs ++ (b ∷ [])) c)

pub body_length : (line : List ℕ) → length (body_of line) ≡ length line / 2 - 1
unfolding body_of
body_length line = let b = bytes_length line in let t = length-take (length (bytes_of line) - 1) (bytes_of line) in omega arith

pub body_small : (line : List ℕ) → Bytes (body_of line)
unfolding body_of
body_small line = bytes_take (length (bytes_of line) - 1) (bytes_of line) (bytes_small line)

-- ---- contents by way of a body: what holds of bodies holds of lines

module _ {A : Type 0} (body : A → List ℕ) (read : List ℕ → Answer A) (x : A) where
  pub reads_back : Bytes (body x) → read (body x) ≡ granted x → read_body read (frame_of (body x)) ≡ granted x
  reads_back h e = let f = frame_back (body x) h in rw (f.0, f.1, e)

  pub reads_exactly : ((bs : List ℕ) → Bytes bs → read bs ≡ granted x → bs ≡ body x) → (line : List ℕ) → read_body read line ≡ granted x → line ≡ frame_of (body x)
  reads_exactly only line = go (framed_of line) refl
    where
      go : (p : Bool) → framed_of line ≡ p → read_body read line ≡ granted x → line ≡ frame_of (body x)
      go true f e = frame_forth line f ∙ ap frame_of (only (body_of line) (body_small line) (rw f at e))
      go false f e = let z : ◌≡◌ {A = ℕ} 0 1 = cc (rw f at e) in absurd (omega arith)

-- ---- one digit changed

-- two lists of bytes that differ at most at k, with sums that differ by a multiple of 256, are equal
same_bytes : (a b : List ℕ) (k : ℕ) → Bytes a → Bytes b → length a ≡ length b → k < length a → ((j : ℕ) → (j ≡ k → ⊥) → get_or a j 0 ≡ get_or b j 0)
    → sum_of a % 256 ≡ 0 → sum_of b % 256 ≡ 0 → a ≡ b
same_bytes a b k ha hb n l other sa sb =
    let v = get_or b k 0 in
    let e : set a k v ≡ b = ext_get_or 0 (set a k v) b (length-set a k v ∙ n) (λ j h. at_index j) in
    let s = sum_set a k v l in
    let f = ap sum_of e in
    let x = ha k in
    let y = hb k in
    let same : get_or a k 0 ≡ v = omega arith in
    sym (ap (set a k) (sym same) ∙ set-get_or a k 0) ∙ e
  where
    at_index : (j : ℕ) → get_or (set a k (get_or b k 0)) j 0 ≡ get_or b j 0
    at_index j = go (eqb j k) refl
      where
        go : (p : Bool) → eqb j k ≡ p → get_or (set a k (get_or b k 0)) j 0 ≡ get_or b j 0
        go true e = let q = eqb-true j k e in rw q (get_or-set_same a k (get_or b k 0) 0 l)
        go false e = get_or-set_other a k j (get_or b k 0) 0 (eqb-false j k e) ∙ other j (eqb-false j k e)

-- a line with exactly one digit changed, to anything, is no frame
pub one_digit : (line : List ℕ) (i c : ℕ) → i + 1 < length line → (c ≡ get_or line i 0 → ⊥) → framed_of line ≡ true → framed_of (set line i c) ≡ false
one_digit line i c h differ e = not_so (framed_of (set line i c)) refute
  where
    other : (j : ℕ) → (j ≡ i / 2 → ⊥) → get_or (bytes_of line) j 0 ≡ get_or (bytes_of (set line i c)) j 0
    other j ne = go (le_or_lt (length line / 2) j)
      where
        go : (length line / 2 ≤ j) ⊎ (j < length line / 2) → get_or (bytes_of line) j 0 ≡ get_or (bytes_of (set line i c)) j 0
        go (inl l) =
            let a = bytes_length line in
            let b = bytes_length (set line i c) in
            let n = length-set line i c in
            get_or-eq_default (bytes_of line) 0 (omega arith) ∙ sym (get_or-eq_default (bytes_of (set line i c)) 0 (omega arith))
        go (inr l) =
            let n = length-set line i c in
            bytes_at line j l
            ∙ ap₂ (λ (x y : ℕ). digit_value x * 16 + digit_value y) (sym (get_or-set_other line i (2 * j) c 0 (λ q. ne (omega arith))))
            (sym (get_or-set_other line i (2 * j + 1) c 0 (λ q. ne (omega arith))))
            ∙ sym (bytes_at (set line i c) j (omega arith))

    refute : framed_of (set line i c) ≡ true → ⊥
    refute f =
        let p = framed_parts line e in
        let q = framed_parts (set line i c) f in
        let n = length-set line i c in
        let a = bytes_length line in
        let b = bytes_length (set line i c) in
        let k : i / 2 < length (bytes_of line) = omega arith in
        let same = same_bytes (bytes_of line) (bytes_of (set line i c)) (i / 2) (bytes_small line) (bytes_small (set line i c)) (omega arith) k other p.2 q.2 in
        let lines : line ≡ set line i c = sym (spelled_forth line p.0) ∙ ap (λ (l : List ℕ). digits_of l ++ (10 ∷ [])) same ∙ spelled_forth (set line i c) q.0 in
        differ (sym (get_or-set_same line i c 0 (omega arith)) ∙ ap (λ (l : List ℕ). get_or l i 0) (sym lines))

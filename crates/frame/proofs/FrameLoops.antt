-- What the functions of `frame` need at each turn of a loop and where they end: facts about the definitions that go by the index.
use Rattle.std.proofs.Common.{◌≡◌, ℕ, zero, suc, ◌+◌, ◌-◌, ◌*◌, ◌/◌, ◌%◌, ◌<◌, ◌≤◌, Bool, true, false, cond, not, ◌&&◌, eqb, leb, List, [], ◌∷◌, ◌++◌, length, get_or, take, drop, set, fold, sym, refl, ap, ◌∙◌, ap₂, true≢false, append_assoc, add-one, arith, length-append, length-take, length-take-le, take_all, get_or-take, take-suc, take-suc-set, take_at, le-leb, leb-true}
use mathlib.Core.Bool.{and_assoc, and-false, and-true}
use lib.ListN.{get_or-eq_default}
use Rattle.std.specs.List.{list_all}
use borrow.Author.Tests.{lt-leb}
use Rattle.common.specs.Buffer.{overlay}
use Rattle.common.proofs.BoolLaws.{told_false, told_true}
use Rattle.common.proofs.BufferLaws.{overlay_step}
use Rattle.frame.specs.Frame.{body_of, bytes_of, check_byte, decoded_in, digit_of, digits_of, frame_of, framed_of, is_digit, sound_body, spelled_of, sum_of, digit_value}
use Rattle.frame.proofs.FrameLaws.{body_length, bytes_at, bytes_length, digits_append, digits_length, framed_parts, sum_append, sum_one, sum_take}

-- ---- whether a line is spelled in digits

all_from : (test : ℕ → Bool) (b : Bool) (xs : List ℕ) → fold (λ (g : Bool) (x : ℕ). g && test x) b xs ≡ (b && list_all test xs)
all_from test b [] = sym (and-true b)
all_from test b (x ∷ xs) = all_from test (b && test x) xs ∙ and_assoc b (test x) (list_all test xs)

-- tests that are taken together from the first to the last
pub all_folded : (test : ℕ → Bool) (xs : List ℕ) → fold (λ (g : Bool) (x : ℕ). g && test x) true xs ≡ list_all test xs
all_folded test xs = all_from test true xs

-- what holds of the first m elements, and of those from index k on, where that is no later, holds of all
pub all_cover : (test : ℕ → Bool) (xs : List ℕ) (m k : ℕ) → k ≤ m → (list_all test (take m xs) && list_all test (drop k xs)) ≡ list_all test xs
all_cover test [] zero zero h = refl
all_cover test [] zero (suc k) h = refl
all_cover test [] (suc m) zero h = refl
all_cover test [] (suc m) (suc k) h = refl
all_cover test (x ∷ xs) zero zero h = refl
all_cover test (x ∷ xs) zero (suc k) h = absurd (omega arith)
all_cover test (x ∷ xs) (suc m) zero h = by (test x) (list_all test (take m xs)) (list_all test xs) (all_cover test xs m zero (omega arith))
  where
    by : (t a b : Bool) → (a && b) ≡ b → ((t && a) && (t && b)) ≡ (t && b)
    by true a b e = e
    by false a b e = refl
all_cover test (x ∷ xs) (suc m) (suc k) h =
    and_assoc (test x) (list_all test (take m xs)) (list_all test (drop k xs)) ∙ ap (λ (b : Bool). test x && b) (all_cover test xs m k (omega arith))

pub spelled_even : (line : List ℕ) → length line % 2 ≡ 0 → spelled_of line ≡ false
unfolding spelled_of
spelled_even [] h = refl
spelled_even (c ∷ []) h = absurd (omega arith)
spelled_even (a ∷ b ∷ rest) h = ap (λ (p : Bool). is_digit a && is_digit b && p) (spelled_even rest (omega arith)) ∙ and-false (is_digit a && is_digit b)

spelled_pairs : (pairs : List ℕ) (last : ℕ) → length pairs % 2 ≡ 0 → (list_all is_digit pairs && eqb last 10) ≡ spelled_of (pairs ++ (last ∷ []))
unfolding spelled_of
spelled_pairs [] last h = refl
spelled_pairs (a ∷ []) last h = absurd (omega arith)
spelled_pairs (a ∷ b ∷ rest) last h =
    ap (λ (p : Bool). p && eqb last 10) (sym (and_assoc (is_digit a) (is_digit b) (list_all is_digit rest)))
    ∙ and_assoc (is_digit a && is_digit b) (list_all is_digit rest) (eqb last 10)
    ∙ ap (λ (p : Bool). is_digit a && is_digit b && p) (spelled_pairs rest last (omega arith))

-- a line that has its last byte behind pairs of bytes
pub spelled_odd : (line pairs : List ℕ) (last : ℕ) {d : Bool} → line ≡ pairs ++ (last ∷ []) → length pairs % 2 ≡ 0 → d ≡ list_all is_digit pairs → (d && eqb last 10) ≡ spelled_of line
spelled_odd line pairs last e h p = rw (p, e) (spelled_pairs pairs last h)

-- ---- sums modulo 256

pub sum_next : (bs : List ℕ) (i s : ℕ) → i < length bs → s % 256 ≡ sum_of (take i bs) % 256 → (s + get_or bs i 0) % 256 ≡ sum_of (take (i + 1) bs) % 256
sum_next bs i s h e = rw add-one (let t = sum_take bs i h in omega arith)

-- a sum that begins with another byte, and wraps at 256
pub sum_folded : (bs : List ℕ) (s : ℕ) → s < 256 → fold (λ (n b : ℕ). (n + b) % 256) s bs ≡ (sum_of bs + s) % 256
unfolding sum_of
sum_folded [] s h = omega arith
sum_folded (b ∷ bs) s h = let ih = sum_folded bs ((s + b) % 256) (omega arith) in omega arith

-- ---- the body's bytes are the line's, but for the last

pub body_at : (line : List ℕ) (i : ℕ) → i < length line / 2 - 1 → get_or (body_of line) i 0 ≡ get_or (bytes_of line) i 0
unfolding body_of
body_at line i h = let n = bytes_length line in get_or-take (length (bytes_of line) - 1) (bytes_of line) i 0 (omega arith)

pub body_past : (line : List ℕ) (i : ℕ) → length line / 2 - 1 ≤ i → get_or (body_of line) i 0 ≡ 0
unfolding body_of
body_past line i h =
    let n = bytes_length line in
    let t = length-take (length (bytes_of line) - 1) (bytes_of line) in
    get_or-eq_default (body_of line) 0 (omega arith)

-- ---- bytes filled in from the front

pub front_next : (bs out : List ℕ) (i v : ℕ) → i < length bs → i < length out → take i out ≡ take i bs → v ≡ get_or bs i 0 → take (i + 1) (set out i v) ≡ take (i + 1) bs
front_next bs out i v h room inv e =
    ap (λ (n : ℕ). take n (set out i v)) (add-one i) ∙ take-suc-set out i v room ∙ ap₂ (λ (l : List ℕ) (b : ℕ). l ++ (b ∷ [])) inv e
    ∙ sym (ap (λ (n : ℕ). take n bs) (add-one i) ∙ take-suc bs i 0 h)

-- the byte of two digits that were told apart
pub pair_byte : (line : List ℕ) (i p : ℕ) {v : ℕ} → i < length line / 2 → p % 256 ≡ get_or line (2 * i) 0 → p / 256 ≡ get_or line (2 * i + 1) 0
    → v ≡ digit_value (p % 256) * 16 + digit_value (p / 256) → v ≡ get_or (bytes_of line) i 0
pair_byte line i p h a b e = e ∙ ap₂ (λ (x y : ℕ). digit_value x * 16 + digit_value y) a b ∙ sym (bytes_at line i h)

-- ---- whether a line is a frame

pub framed_of_lem : (line : List ℕ) (s : ℕ) → spelled_of line ≡ true → s ≡ sum_of (bytes_of line) % 256 → (leb 1 (length line / 2) && eqb s 0) ≡ framed_of line
unfolding framed_of
framed_of_lem line s e f = rw (e, bytes_length line, f)

framed_spelled : (line : List ℕ) → framed_of line ≡ true → spelled_of line ≡ true
framed_spelled line e = (framed_parts line e).0

pub unframed : (line : List ℕ) → spelled_of line ≡ false → false ≡ framed_of line
unfolding framed_of
unframed line e = rw e

-- ---- a line decoded in a buffer

module _ (line : List ℕ) where
  -- all bytes of a line: those of its body, and one more
  body_and : 1 ≤ length line / 2 → bytes_of line ≡ body_of line ++ (get_or (bytes_of line) (length line / 2 - 1) 0 ∷ [])
  unfolding body_of
  body_and h =
      let n = bytes_length line in
      let e : length (bytes_of line) - 1 ≡ length line / 2 - 1 = omega arith in
      let k : suc (length line / 2 - 1) ≡ length line / 2 = omega arith in
      sym (take_all (suc (length line / 2 - 1)) (bytes_of line) (omega arith)) ∙ take-suc (bytes_of line) (length line / 2 - 1) 0 (omega arith)
      ∙ ap (λ (m : ℕ). take m (bytes_of line) ++ (get_or (bytes_of line) (length line / 2 - 1) 0 ∷ [])) (sym e)

  pub framed_by : (n : ℕ) → n + 1 ≡ length line / 2 → spelled_of line ≡ true → eqb ((sum_of (body_of line) + get_or (bytes_of line) n 0) % 256) 0 ≡ framed_of line
  framed_by n h e =
      let m : n ≡ length line / 2 - 1 = omega arith in
      let s = ap sum_of (body_and (omega arith)) ∙ sum_append (body_of line) _ ∙ ap (λ (x : ℕ). sum_of (body_of line) + x) (sum_one (get_or (bytes_of line) (length line / 2 - 1) 0)) in
      let t = framed_of_lem line (sum_of (bytes_of line) % 256) e refl in
      let l : leb 1 (length line / 2) ≡ true = le-leb 1 (length line / 2) (omega arith) in
      rw m (ap (λ (x : ℕ). eqb (x % 256) 0) (sym s) ∙ (rw l at t))

  pub body_taken : (n : ℕ) → n + 1 ≡ length line / 2 → take n (bytes_of line) ≡ body_of line
  unfolding body_of
  body_taken n h =
      let l = bytes_length line in
      let e : n ≡ length (bytes_of line) - 1 = omega arith in
      ap (λ (m : ℕ). take m (bytes_of line)) e

  -- where nothing is decoded
  module _ (out : List ℕ) where
    abbrev pub Nothing : Type 0
    Nothing = (0 ≡ length (sound_body line (length out))) × (out ≡ decoded_in line out)

    pub no_bytes : length line / 2 ≡ 0 → Nothing
    unfolding sound_body decoded_in
    no_bytes h =
        let e : body_of line ≡ [] = length_zero (body_of line) (let l = body_length line in omega arith) in
        rw e (go (framed_of line && leb 0 (length out)), same (spelled_of line && leb 0 (length out)))
      where
        nil : List ℕ
        nil = []

        length_zero : (l : List ℕ) → length l ≡ 0 → l ≡ []
        length_zero [] h = refl
        length_zero (x ∷ l) h = absurd (omega arith)

        go : (f : Bool) → 0 ≡ length (cond f nil nil)
        go true = refl
        go false = refl

        same : (f : Bool) → out ≡ cond f (overlay nil out) out
        same true = refl
        same false = refl

    pub no_room : {n : ℕ} → n + 1 ≡ length line / 2 → length out < n → Nothing
    unfolding sound_body decoded_in
    no_room m h = let l = body_length line in rw (lt-leb (length (body_of line)) (length out) (omega arith), and-false (framed_of line), and-false (spelled_of line)) (refl, refl)

    pub no_spelling : {s : Bool} → s ≡ spelled_of line → not s ≡ true → Nothing
    unfolding sound_body decoded_in
    no_spelling q h = let e = told_false q h in rw (sym (unframed line e), e) (refl, refl)

    -- where the body is, which has n bytes: it counts if the line is a frame
    module _ {n : ℕ} (m : n + 1 ≡ length line / 2) (h : n ≤ length out) {s : Bool} (q : s ≡ spelled_of line) (e : not s ≡ false) {xs : List ℕ} (b : xs ≡ body_of line) where
      fits : leb (length (body_of line)) (length out) ≡ true
      fits = let l = body_length line in le-leb (length (body_of line)) (length out) (omega arith)

      counted : n ≡ length (body_of line)
      counted = let l = body_length line in omega arith

      decoded_in_lem : xs ++ drop n out ≡ decoded_in line out
      unfolding decoded_in
      decoded_in_lem = rw (b, told_true q e, fits, counted)

      module _ {f : Bool} (g : f ≡ framed_of line) where
        pub decoded_framed : f ≡ true → (n ≡ length (sound_body line (length out))) × (xs ++ drop n out ≡ decoded_in line out)
        unfolding sound_body
        decoded_framed t = (rw (← g, t, fits) counted, decoded_in_lem)

        pub decoded_unframed : f ≡ false → (0 ≡ length (sound_body line (length out))) × (xs ++ drop n out ≡ decoded_in line out)
        unfolding sound_body
        decoded_unframed t = (rw (← g, t), decoded_in_lem)

-- what is decoded is the body, or nothing
pub sound_whole : (line : List ℕ) (room : ℕ) → (sound_body line room ≡ [] → ⊥) → sound_body line room ≡ body_of line
unfolding sound_body
sound_whole line room h = go (framed_of line && leb (length (body_of line)) room) h
  where
    go : (b : Bool) → (cond b (body_of line) [] ≡ [] → ⊥) → cond b (body_of line) [] ≡ body_of line
    go true h = refl
    go false h = absurd (h refl)

-- what is decoded has room
pub sound_short : (line : List ℕ) (room : ℕ) → length (sound_body line room) ≤ room
unfolding sound_body
sound_short line room = go (framed_of line) (leb (length (body_of line)) room) refl
  where
    go : (f l : Bool) → leb (length (body_of line)) room ≡ l → length (cond (f && l) (body_of line) []) ≤ room
    go true true e = leb-true (length (body_of line)) room e
    go true false e = omega arith
    go false l e = omega arith

-- the first n bytes of the buffer are what is decoded
pub decoded_front : (line out : List ℕ) {xs ys : List ℕ} {n : ℕ} → n ≡ length (sound_body line (length out)) → xs ≡ decoded_in line out → ys ≡ take n xs → ys ≡ sound_body line (length out)
unfolding sound_body decoded_in
decoded_front line out {n = n} e h g =
    g ∙ ap (take n) h ∙ go (framed_of line) (spelled_of line) (leb (length (body_of line)) (length out)) (framed_spelled line) e
  where
    go : (f s l : Bool) → (f ≡ true → s ≡ true) → n ≡ length (cond (f && l) (body_of line) []) → take n (cond (s && l) (overlay (body_of line) out) out) ≡ cond (f && l) (body_of line) []
    go true true true h e = take_at (body_of line) (drop (length (body_of line)) out) n (sym e)
    go true true false h e = rw e
    go true false l h e = absurd (true≢false (sym (h refl)))
    go false s l h e = rw e

-- ---- digits at the front of a buffer

-- two bytes are stored just past the text
pub two_more : (text out : List ℕ) (k v w : ℕ) → k ≡ length text → k + 1 < length out
    → set (set (overlay text out) k v) (k + 1) w ≡ overlay (text ++ (v ∷ w ∷ [])) out
two_more text out k v w e h =
    let n : length (text ++ (v ∷ [])) ≡ k + 1 = length-append text (v ∷ []) ∙ omega arith in
    ap (λ (l : List ℕ). set l (k + 1) w) (ap (λ (j : ℕ). set (overlay text out) j v) e ∙ overlay_step text out v (omega arith))
    ∙ ap (λ (j : ℕ). set (overlay (text ++ (v ∷ [])) out) j w) (sym n)
    ∙ overlay_step (text ++ (v ∷ [])) out w (omega arith)
    ∙ ap (λ (l : List ℕ). overlay l out) (append_assoc text (v ∷ []) (w ∷ []))

-- the two digits of a byte just past the digits of others
pub digits_more : (bs out : List ℕ) (b k : ℕ) → k ≡ 2 * length bs → k + 1 < length out
    → set (set (overlay (digits_of bs) out) k (digit_of (b / 16))) (k + 1) (digit_of (b % 16)) ≡ overlay (digits_of (bs ++ (b ∷ []))) out
unfolding digits_of
digits_more bs out b k e h =
    two_more (digits_of bs) out k (digit_of (b / 16)) (digit_of (b % 16)) (e ∙ sym (digits_length bs)) h
    ∙ ap (λ (l : List ℕ). overlay l out) (sym (digits_append bs (b ∷ [])))

pub digits_next : (body out : List ℕ) (i : ℕ) → i < length body → 2 * length body ≤ length out
    → set (set (overlay (digits_of (take i body)) out) (2 * i) (digit_of (get_or body i 0 / 16))) (2 * i + 1) (digit_of (get_or body i 0 % 16))
    ≡ overlay (digits_of (take (i + 1) body)) out
digits_next body out i h fits =
    let n = length-take-le i body (omega arith) in
    digits_more (take i body) out (get_or body i 0) (2 * i) (omega arith) (omega arith)
    ∙ ap (λ (l : List ℕ). overlay (digits_of l) out) (sym (ap (λ (j : ℕ). take j body) (add-one i) ∙ take-suc body i 0 h))

pub check_of : (body : List ℕ) (s r : ℕ) → s ≡ sum_of body % 256 → r < 256 → (r + s) % 256 ≡ 0 → r ≡ check_byte body
unfolding check_byte
check_of body s r e h z = omega arith

-- the check byte and LF past the body's digits
pub frame_more : (body out : List ℕ) (b k : ℕ) → k ≡ 2 * length body → b ≡ check_byte body → k + 2 < length out
    → set (set (set (overlay (digits_of body) out) k (digit_of (b / 16))) (k + 1) (digit_of (b % 16))) (k + 2) 10 ≡ overlay (frame_of body) out
unfolding frame_of
frame_more body out b k e f h =
    let bs = body ++ (b ∷ []) in
    let m = length-append body (b ∷ []) in
    let n : k + 2 ≡ length (digits_of bs) = omega (arith, digits_length bs) in
    ap (λ (l : List ℕ). set l (k + 2) 10) (digits_more body out b k e (omega arith))
    ∙ ap (λ (j : ℕ). set (overlay (digits_of bs) out) j 10) n
    ∙ overlay_step (digits_of bs) out 10 (omega arith)
    ∙ ap (λ (c : ℕ). overlay (digits_of (body ++ (c ∷ [])) ++ (10 ∷ [])) out) f

-- What the functions of `labels` and `tuples` need at each turn of a loop, and of the bytes that they are handed.
use mathlib.Core.Bool.{Bool, true, false, ◌&&◌, cond}
use mathlib.Core.List.{List, [], ◌++◌}
use mathlib.Core.Logic.{◌⊎◌, inl, inr, ⊎_elim}
use mathlib.Core.Path.{◌≡◌, refl, sym, ap, ap₂, ◌∙◌}
use Prim.Native.Nat.{ℕ, ◌+◌, ◌-◌, ◌*◌, ◌/◌, ◌%◌, ◌^◌, ◌≤◌, ◌<◌}
use native.Mathlib.Nat.{add-zero, div-one, zero-add}
use native.Mathlib.Omega.{arith}
use lib.Dec.{leb, ltb}
use lib.ListN.{drop, get_or, length, replicate, set, take, length-append, length-drop, length-replicate, get_or-append, get_or-eq_default, get_or-replicate}
use lib.Seq.{get_or-append-add, get_or-drop}
use borrow.Author.Tests.{le-leb, le-ltb, leb-true}
use borrow.Rule.Slice.PartMut.{put_mid}
use Rattle.std.specs.Int.{from_le_bytes, to_le_bytes, w64}
use Rattle.std.proofs.lemmas.Slice.{put_mid-paste}
use Rattle.common.specs.Index.{tabulate}
use Rattle.common.proofs.BoolLaws.{both, first_true, second_true}
use Rattle.common.proofs.IndexLaws.{le_or_lt, tabulate_at, tabulate_is, tabulate_length, tabulate_more, tabulate_same}
use Rattle.label.specs.Label
use Rattle.label.specs.Label.{label_of}
use Rattle.label.specs.Words.{word_at, words as set_words}
use Rattle.label.specs.declared.Label.{Label}
use Rattle.label.proofs.LabelLaws.{valid_hierarchy}
use Rattle.octets.specs.Bytes.{Appended}
use Rattle.octets.specs.Internal.Put.{Put}
use Rattle.octets.proofs.ByteLaws.{left_out, nothing_put, one_put, put_all, put_appended, puts}
use Rattle.range.specs.Range
use Rattle.range.specs.Range.{range_of}
use Rattle.range.specs.declared.Range.{Range}
use Rattle.range.proofs.RangeLaws.{valid_parts}
use Rattle.label_codec.specs.Body.{byte_at, category_byte, label_at, label_bytes, label_size, base_number, range_at, range_bytes, word_from}
use Rattle.label_codec.specs.Codec.{label_code, label_fits, range_code, range_fits}
use Rattle.label_codec.proofs.BodyLaws.{part, part_at, word_byte}
use Rattle.label_codec.proofs.NumberLaws.{number_moved}

-- ---- words

-- the library's number of eight bytes is the one whose digits they are
le_number : (xs : List ℕ) → from_le_bytes w64 xs ≡ base_number 256 (byte_at xs) 0 8
unfolding base_number
le_number xs = omega arith

-- a word, whose eight bytes were copied from an index
pub word_read : (bs : List ℕ) (at : ℕ) {xs : List ℕ} {w : ℕ} → xs ≡ take (at + 8 - at) (drop at bs) → w ≡ from_le_bytes w64 xs → w ≡ base_number 256 (byte_at bs) at 8
word_read bs at {xs} {w} e f =
    let g : xs ≡ part at 8 bs = e ∙ ap (λ (n : ℕ). take n (drop at bs)) {x = at + 8 - at} {y = 8} (omega arith) in
    f ∙ le_number xs ∙ number_moved 256 (byte_at xs) (byte_at bs) 0 at 8
    (λ k l. ap (byte_at xs) (zero-add k) ∙ ap (λ (ys : List ℕ). byte_at ys k) g ∙ part_at at 8 k bs l)

-- ---- bytes that are put

-- the library's bytes of a word are its digits in base 256
le_bytes : (w : ℕ) → to_le_bytes w64 w ≡ tabulate (λ k. w / 256 ^ k % 256) 8
unfolding tabulate
le_bytes w = rw (div-one w)

-- a word's bytes, where they were copied over eight bytes at an index
pub word_put : (out : List ℕ) (at w : ℕ) {bs ys : List ℕ} → at + 8 ≤ length out → bs ≡ to_le_bytes w64 w → ys ≡ bs
    → Put out at (tabulate (λ k. w / 256 ^ k % 256) 8) (at + 8) (put_mid at (at + 8 - at) out ys)
word_put out at w {bs} {ys} room e f =
    let g : ys ≡ tabulate (λ k. w / 256 ^ k % 256) 8 = f ∙ e ∙ le_bytes w in
    let n = tabulate_length (λ k. w / 256 ^ k % 256) 8 in
    record { past = omega arith; written = put_mid-paste at (at + 8 - at) out ys _ 8 g (omega arith) (omega arith) ∙ rw n at (put_all out at (tabulate (λ k. w / 256 ^ k % 256) 8)) }

-- the bytes of a set's words up to j, and of word j
set_more : (ws : List ℕ) (j : ℕ) → tabulate (category_byte ws) (8 * j) ++ tabulate (λ k. word_at ws j / 256 ^ k % 256) 8 ≡ tabulate (category_byte ws) (8 * (j + 1))
set_more ws j =
    ap (λ (bs : List ℕ). tabulate (category_byte ws) (8 * j) ++ bs) (tabulate_same _ _ 8 (λ k h. sym (word_byte ws j k h)))
    ∙ tabulate_more (category_byte ws) (8 * j) 8 ∙ ap (tabulate (category_byte ws)) (omega arith)

-- one more word of a set
pub word_more : (ws a b c : List ℕ) (i j n : ℕ) {w : ℕ} → n ≡ i + 8 * j → n ≤ length a → w ≡ word_at ws j → Put a i (tabulate (category_byte ws) (8 * j)) n b
    → Put b n (tabulate (λ k. w / 256 ^ k % 256) 8) (n + 8) c → Put a i (tabulate (category_byte ws) (8 * (j + 1))) (n + 8) c
word_more ws a b c i j n {w} e h f p q =
    let l = tabulate_length (category_byte ws) (8 * j) in
    rw (set_more ws j) at (puts a i (omega arith) p (rw f at q))

-- a label's bytes: the hierarchy, then all words of the set
pub label_put : (before out : List ℕ) (at w j next : ℕ) (l : Label) → at < length before → j ≡ w
    → Put (set before at l.hierarchy) (at + 1) (tabulate (category_byte l.categories) (8 * j)) next out → Put before at (label_bytes w l) next out
unfolding label_bytes
label_put before out at w j next l h e p = rw (sym e) (puts before at (omega arith) (one_put before at l.hierarchy h) p)

-- bytes that are appended where they fit and there is room: the code tests both at once
module _ (out : List ℕ) (at : ℕ) (bs : List ℕ) (fits : Bool) (size : ℕ) (long : length bs ≡ size) where
  pub code_left_out : (fits && leb (at + size) (length out)) ≡ false → Appended out at (cond fits bs []) at out
  code_left_out e = go fits e
    where
      none : (t : Bool) → leb (at + 0) (length out) ≡ t → Appended out at [] at out
      none true h = put_appended (leb-true (at + 0) (length out) h) (nothing_put out at)
      none false h = left_out (record { count = refl; room = sym h }) refl

      go : (f : Bool) → (f && leb (at + size) (length out)) ≡ false → Appended out at (cond f bs []) at out
      go true h = left_out (record { count = sym long; room = sym h }) refl
      go false h = none (leb (at + 0) (length out)) refl

  pub code_room : (fits && leb (at + size) (length out)) ≡ true → at + length bs ≤ length out
  code_room e = rw long (leb-true (at + size) (length out) (second_true fits (leb (at + size) (length out)) e))

  pub code_put : {r : ℕ} {after : List ℕ} → (fits && leb (at + size) (length out)) ≡ true → Put out at bs r after → Appended out at (cond fits bs []) r after
  code_put e p = rw (first_true fits (leb (at + size) (length out)) e) (put_appended (code_room e) p)

-- ---- what is read is the same where the bytes are

-- from index i of xs on stand the bytes that stand from index j of ys on
abbrev pub Same : List ℕ → ℕ → List ℕ → ℕ → Type 0
Same xs i ys j = (k : ℕ) → byte_at xs (i + k) ≡ byte_at ys (j + k)

-- so in the bytes past an index
pub rest_same : (bs : List ℕ) (i : ℕ) → Same (drop i bs) 0 bs i
rest_same bs i k = ap (byte_at (drop i bs)) {x = 0 + k} {y = k} (omega arith) ∙ get_or-drop i bs k 0

pub moved_label : (w : ℕ) (xs ys : List ℕ) (i j : ℕ) → ((k : ℕ) → k < label_size w → byte_at xs (i + k) ≡ byte_at ys (j + k)) → label_at w xs i ≡ label_at w ys j
unfolding label_at word_from
moved_label w xs ys i j h =
    ap₂ label_of (ap (byte_at xs) (sym (add-zero i)) ∙ h 0 (omega arith) ∙ ap (byte_at ys) (add-zero j)) (tabulate_same _ _ set_words (λ m l. word m (le_or_lt w m)))
  where
    word : (m : ℕ) → (w ≤ m) ⊎ (m < w) → cond (ltb m w) (base_number 256 (byte_at xs) (i + 1 + 8 * m) 8) 0 ≡ cond (ltb m w) (base_number 256 (byte_at ys) (j + 1 + 8 * m) 8) 0
    word m (inl p) = rw (le-ltb m w p)
    word m (inr p) =
        ap (λ (n : ℕ). cond (ltb m w) n 0) (number_moved 256 (byte_at xs) (byte_at ys) (i + 1 + 8 * m) (j + 1 + 8 * m) 8
        (λ k l. ap (byte_at xs) (omega arith) ∙ h (1 + 8 * m + k) (omega arith) ∙ ap (byte_at ys) (omega arith)))

module _ (xs ys : List ℕ) where
  -- and further on
  pub same_later : (i j n : ℕ) → Same xs i ys j → Same xs (i + n) ys (j + n)
  same_later i j n h k = ap (byte_at xs) (omega arith) ∙ h (n + k) ∙ ap (byte_at ys) (omega arith)

  pub same_first : (i j : ℕ) → Same xs i ys j → byte_at xs i ≡ byte_at ys j
  same_first i j h = ap (byte_at xs) (sym (add-zero i)) ∙ h 0 ∙ ap (byte_at ys) (add-zero j)

  pub same_label : (w i j : ℕ) → Same xs i ys j → label_at w xs i ≡ label_at w ys j
  same_label w i j h = moved_label w xs ys i j (λ k l. h k)

  pub same_range : (w i j : ℕ) → Same xs i ys j → range_at w xs i ≡ range_at w ys j
  unfolding range_at
  same_range w i j h = ap₂ range_of (same_label w i j h) (same_label w (i + label_size w) (j + label_size w) (same_later i j (label_size w) h))

-- bytes that were copied over the front of zeros go on with these, as they do past their end
zero_at : (n i : ℕ) → get_or {A = ℕ} (replicate n 0) i 0 ≡ 0
zero_at n i = ⊎_elim (λ l. get_or-eq_default (replicate n 0) 0 {n = i} (omega (arith, length-replicate {A = ℕ} n 0))) (λ l. get_or-replicate n i 0 0 l) (le_or_lt n i)

pub padded : {ys : List ℕ} (xs : List ℕ) (n : ℕ) → ys ≡ xs → length xs ≤ n → ys ++ drop (length xs) (replicate n 0) ≡ tabulate (byte_at xs) n
padded xs n e h =
    ap (λ (l : List ℕ). l ++ zeros) e
    ∙ tabulate_is (byte_at xs) (xs ++ zeros) n 0 (length-append xs zeros ∙ omega (arith, length-drop {A = ℕ} (length xs) (replicate n 0), length-replicate {A = ℕ} n 0))
    (λ i l. ⊎_elim (past i) (λ b. get_or-append xs zeros 0 i b) (le_or_lt (length xs) i))
  where
    zeros : List ℕ
    zeros = drop (length xs) (replicate n 0)

    past : (i : ℕ) → length xs ≤ i → get_or (xs ++ zeros) i 0 ≡ byte_at xs i
    past i l =
        let k : i ≡ length xs + (i - length xs) = omega arith in
        ap (λ (j : ℕ). get_or (xs ++ zeros) j 0) k ∙ get_or-append-add xs zeros (i - length xs) 0
        ∙ get_or-drop (length xs) (replicate n 0) (i - length xs) 0 ∙ zero_at n (length xs + (i - length xs)) ∙ sym (get_or-eq_default xs 0 l)

pub padded_label : (w : ℕ) (xs : List ℕ) (n : ℕ) → label_size w ≤ n → label_at w (tabulate (byte_at xs) n) 0 ≡ label_at w xs 0
padded_label w xs n h =
    moved_label w (tabulate (byte_at xs) n) xs 0 0
    (λ k l. let e : 0 + k ≡ k = omega arith in ap (byte_at (tabulate (byte_at xs) n)) e ∙ tabulate_at (byte_at xs) n k 0 (omega arith) ∙ ap (byte_at xs) (sym e))

-- bytes that were copied to a buffer of their own
pub copied_at : (ys : List ℕ) (j n k : ℕ) → k < n → byte_at (tabulate (λ i. byte_at ys (j + i)) n) (0 + k) ≡ byte_at ys (j + k)
copied_at ys j n k h = ap (byte_at (tabulate (λ i. byte_at ys (j + i)) n)) {x = 0 + k} {y = k} (omega arith) ∙ tabulate_at (λ i. byte_at ys (j + i)) n k 0 h

-- ---- valid values fit their bytes, so that they have them

pub valid_label_fits : (l : Label) → Label.valid_of l ≡ true → label_fits l ≡ true
valid_label_fits l v = let h = valid_hierarchy l v in le-leb l.hierarchy 255 (omega arith)

pub label_coded : (w : ℕ) (l : Label) → Label.valid_of l ≡ true → label_code w l ≡ label_bytes w l
unfolding label_code
label_coded w l v = rw (valid_label_fits l v)

pub valid_range_fits : (x : Range) → Range.valid_of x ≡ true → range_fits x ≡ true
valid_range_fits x v = let p = valid_parts x v in both (valid_label_fits x.low p.low) (valid_label_fits x.high p.high)

pub range_coded : (w : ℕ) (x : Range) → Range.valid_of x ≡ true → range_code w x ≡ range_bytes w x
unfolding range_code
range_coded w x v = rw (valid_range_fits x v)

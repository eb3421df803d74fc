-- The laws of labels and ranges as bytes: what is written reads back, and what is read is written as it stands.
use mathlib.Core.Bool.{cond, true}
use mathlib.Core.List.{List, [], ◌∷◌, ◌++◌}
use mathlib.Core.Logic.{⊎_elim}
use mathlib.Core.Path.{◌≡◌, sym, ap, ap₂, ◌∙◌}
use Prim.Native.Nat.{ℕ, zero, suc, ◌+◌, ◌*◌, ◌/◌, ◌%◌, ◌^◌, ◌≤◌, ◌<◌}
use native.Mathlib.Nat.{add-zero, mod-lt, zero-lt-suc}
use native.Mathlib.Omega.{arith}
use lib.Dec.{eqb}
use lib.ListN.{drop, get_or, length, take, length-append, length-drop, get_or-append, get_or-eq_default}
use lib.Seq.{drop-cons, ext_get_or, get_or-append-add, get_or-drop, get_or-take, length-take-le, take_all, drop-drop, take-add}
use borrow.Author.Tests.{le-ltb, lt-ltb}
use Rattle.common.specs.Index.{tabulate}
use Rattle.label.specs.Label
use Rattle.label.specs.Words.{bit, has, word_at, words}
use Rattle.label.specs.declared.Label.{Label}
use Rattle.label.proofs.LabelLaws.{valid_hierarchy}
use Rattle.range.proofs.RangeLaws.{valid_parts}
use Rattle.common.proofs.IndexLaws.{le_or_lt, tabulate_at, tabulate_length}
use Rattle.range.specs.Range
use Rattle.range.specs.declared.Range.{Range}
use Rattle.common.proofs.BytesLaws.{Bytes, bytes_append}
use Rattle.label_codec.specs.Body.{byte_at, category_bit, category_byte, label_at, label_bytes, label_size, base_number, range_at, range_bytes, range_size, word_from}
use Rattle.label_codec.proofs.NumberLaws.{as_number, byte_bit, number_bound, number_digit, number_only}

-- ---- bytes at an index

-- bs has xs from index i on
abbrev pub Holds : List ℕ → ℕ → List ℕ → Type 0
Holds bs i xs = (k : ℕ) → k < length xs → get_or bs (i + k) 0 ≡ get_or xs k 0

pub holds_self : (bs : List ℕ) → Holds bs 0 bs
holds_self bs k h = ap (λ (n : ℕ). get_or bs n 0) (omega arith)

pub holds_first : (bs : List ℕ) (i : ℕ) (xs ys : List ℕ) → Holds bs i (xs ++ ys) → Holds bs i xs
holds_first bs i xs ys h k l = let n = length-append xs ys in h k (omega arith) ∙ get_or-append xs ys 0 k l

pub holds_second : (bs : List ℕ) (i j : ℕ) (xs ys : List ℕ) → j ≡ i + length xs → Holds bs i (xs ++ ys) → Holds bs j ys
holds_second bs i j xs ys e h k l =
    let n = length-append xs ys in
    ap (λ (m : ℕ). get_or bs m 0) (omega arith) ∙ h (length xs + k) (omega arith) ∙ get_or-append-add xs ys k 0

-- n bytes of bs from index i on
abbrev pub part : ℕ → ℕ → List ℕ → List ℕ
part i n bs = take n (drop i bs)

pub part_length : (i n : ℕ) (bs : List ℕ) → i + n ≤ length bs → length (part i n bs) ≡ n
part_length i n bs h = let d = length-drop i bs in length-take-le n (drop i bs) (omega arith)

pub part_at : (i n k : ℕ) (bs : List ℕ) → k < n → get_or (part i n bs) k 0 ≡ get_or bs (i + k) 0
part_at i n k bs h = get_or-take n (drop i bs) k 0 h ∙ get_or-drop i bs k 0

pub one_part : (bs : List ℕ) (i : ℕ) → i < length bs → part i 1 bs ≡ byte_at bs i ∷ []
one_part bs i h = ap (take 1) (drop-cons bs i 0 h)

-- a list that bs has from index i on is that part of it
pub part_is : (i n : ℕ) (bs xs : List ℕ) → i + n ≤ length bs → length xs ≡ n → ((k : ℕ) → k < n → get_or xs k 0 ≡ get_or bs (i + k) 0) → xs ≡ part i n bs
part_is i n bs xs h e at =
    ext_get_or 0 xs (part i n bs) (e ∙ sym (part_length i n bs h)) (λ k l. at k (omega arith) ∙ sym (part_at i n k bs (omega arith)))

-- a list is its first byte and the part after it
pub first_part : (n : ℕ) (bs : List ℕ) → length bs ≡ 1 + n → bs ≡ byte_at bs 0 ∷ part 1 n bs
first_part n [] e = absurd (omega arith)
first_part n (b ∷ bs) e = ap (λ (l : List ℕ). b ∷ l) (sym (take_all n bs (omega arith)))

-- past its end a list goes on with zeros
tabulate_below : (f : ℕ → ℕ) (n b : ℕ) → ((i : ℕ) → f i < b) → (i : ℕ) → get_or (tabulate f n) i 0 < b
tabulate_below f n b h i =
    ⊎_elim (λ l. let e = tabulate_length f n in let z = get_or-eq_default (tabulate f n) 0 {n = i} (omega arith) in omega (arith, h i))
    (λ l. let g = tabulate_at f n i 0 l in omega (arith, h i)) (le_or_lt n i)

pub bytes_tabulate : (f : ℕ → ℕ) (n : ℕ) → ((i : ℕ) → f i < 256) → Bytes (tabulate f n)
bytes_tabulate f n = tabulate_below f n 256

-- ---- labels

-- every category of l stands in the bytes of w words
abbrev pub Within : ℕ → Label → Type 0
Within w l = (j : ℕ) → w ≤ j → word_at l.categories j ≡ 0

pub label_length : (w : ℕ) (l : Label) → length (label_bytes w l) ≡ label_size w
unfolding label_bytes
label_length w l = let t = tabulate_length (category_byte l.categories) (8 * w) in omega arith

-- byte i of a set by division of its word
pub category_byte_lem : (ws : List ℕ) (i : ℕ) → category_byte ws i ≡ word_at ws (i / 8) / 256 ^ (i % 8) % 256
unfolding category_byte has bit
category_byte_lem ws i =
    number_only 2 (λ k. category_bit ws (8 * i + k)) (zero-lt-suc 1) 0 8 (word_at ws (i / 8) / 256 ^ (i % 8) % 256) digit (mod-lt (word_at ws (i / 8) / 256 ^ (i % 8)) (zero-lt-suc 255))
  where
    digit : (k : ℕ) → k < 8 → category_bit ws (8 * i + (0 + k)) ≡ word_at ws (i / 8) / 256 ^ (i % 8) % 256 / 2 ^ k % 2
    digit k h =
        let q : (8 * i + (0 + k)) / 64 ≡ i / 8 = omega arith in
        let r : (8 * i + (0 + k)) % 64 ≡ 8 * (i % 8) + k = omega arith in
        ap₂ (λ (j n : ℕ). cond (eqb (word_at ws j / 2 ^ n % 2) 1) 1 0) q r
        ∙ as_number (word_at ws (i / 8) / 2 ^ (8 * (i % 8) + k) % 2) (mod-lt (word_at ws (i / 8) / 2 ^ (8 * (i % 8) + k)) (zero-lt-suc 1))
        ∙ byte_bit (word_at ws (i / 8)) (i % 8) k h

category_byte_small : (ws : List ℕ) (i : ℕ) → category_byte ws i < 256
category_byte_small ws i = rw category_byte_lem (mod-lt (word_at ws (i / 8) / 256 ^ (i % 8)) (zero-lt-suc 255))

pub label_bytes_lem : (w : ℕ) (l : Label) → Label.valid_of l ≡ true → Bytes (label_bytes w l)
unfolding label_bytes
label_bytes_lem w l v zero = let s = valid_hierarchy l v in omega arith
label_bytes_lem w l v (suc i) = bytes_tabulate (category_byte l.categories) (8 * w) (category_byte_small l.categories) i

-- byte k of word j
pub word_byte : (ws : List ℕ) (j k : ℕ) → k < 8 → category_byte ws (8 * j + k) ≡ word_at ws j / 256 ^ k % 256
word_byte ws j k h =
    let q : (8 * j + k) / 8 ≡ j = omega arith in
    let r : (8 * j + k) % 8 ≡ k = omega arith in
    category_byte_lem ws (8 * j + k) ∙ ap₂ (λ (x y : ℕ). word_at ws x / 256 ^ y % 256) q r

pub word_from_lem : (w : ℕ) (bs : List ℕ) (i j : ℕ) → j < w → word_from w bs i j ≡ base_number 256 (byte_at bs) (i + 8 * j) 8
unfolding word_from
word_from_lem w bs i j h = rw (lt-ltb j w h)

pub word_past : (w : ℕ) (bs : List ℕ) (i j : ℕ) → w ≤ j → word_from w bs i j ≡ 0
unfolding word_from
word_past w bs i j h = rw (le-ltb j w h)

-- a label that is read has what its type says
pub label_typed : (w : ℕ) (bs : List ℕ) (i : ℕ) → Bytes bs → Label.Typed (label_at w bs i)
unfolding label_at
label_typed w bs i small =
    record { hierarchy = let s = small i in omega arith; length_is = tabulate_length (word_from w bs (i + 1)) words; word = tabulate_below (word_from w bs (i + 1)) words (2 ^ 64) word }
  where
    word : (j : ℕ) → word_from w bs (i + 1) j < 2 ^ 64
    word j =
        ⊎_elim (λ p. rw (word_past w bs (i + 1) j p) (omega arith))
        (λ p. rw (word_from_lem w bs (i + 1) j p) (number_bound 256 (byte_at bs) small (i + 1 + 8 * j) 8)) (le_or_lt w j)

-- the bytes of a label read back as the label
pub label_back : (w : ℕ) (bs : List ℕ) (i : ℕ) (l : Label) → Holds bs i (label_bytes w l) → Label.Typed l → Within w l → label_at w bs i ≡ l
unfolding label_bytes label_at
label_back w bs i l h t within = ap₂ Label.label_of first rest
  where
    cats : List ℕ
    cats = l.categories

    size : length (l.hierarchy ∷ tabulate (category_byte cats) (8 * w)) ≡ label_size w
    size = let t = tabulate_length (category_byte cats) (8 * w) in omega arith

    first : byte_at bs i ≡ l.hierarchy
    first = ap (byte_at bs) (sym (add-zero i)) ∙ h 0 (omega (arith, size))

    digit : (j k : ℕ) → j < w → k < 8 → byte_at bs (i + 1 + 8 * j + k) ≡ word_at cats j / 256 ^ k % 256
    digit j k lj lk =
        ap (byte_at bs) (omega arith) ∙ h (suc (8 * j + k)) (omega (arith, size))
        ∙ tabulate_at (category_byte cats) (8 * w) (8 * j + k) 0 (omega arith) ∙ word_byte cats j k lk

    word : (j : ℕ) → word_from w bs (i + 1) j ≡ word_at cats j
    word j =
        ⊎_elim (λ p. word_past w bs (i + 1) j p ∙ sym (within j p))
        (λ p. word_from_lem w bs (i + 1) j p ∙ number_only 256 (byte_at bs) (zero-lt-suc 255) (i + 1 + 8 * j) 8 (word_at cats j) (λ k q. digit j k p q) (t.word j))
        (le_or_lt w j)

    rest : tabulate (word_from w bs (i + 1)) words ≡ cats
    rest =
        ext_get_or 0 (tabulate (word_from w bs (i + 1)) words) cats (tabulate_length (word_from w bs (i + 1)) words ∙ sym t.length_is)
        (λ j p. tabulate_at (word_from w bs (i + 1)) words j 0 (omega (arith, tabulate_length (word_from w bs (i + 1)) words)) ∙ word j)

-- a label that is read is written as the bytes that it was read from
pub label_forth : (w : ℕ) (bs : List ℕ) (i : ℕ) → Bytes bs → w ≤ words → i + label_size w ≤ length bs → label_bytes w (label_at w bs i) ≡ part i (label_size w) bs
unfolding label_bytes label_at
label_forth w bs i small fits h =
    part_is i (label_size w) bs _ h (omega (arith, tabulate_length (category_byte (tabulate (word_from w bs (i + 1)) words)) (8 * w))) at_index
  where
    ws : List ℕ
    ws = tabulate (word_from w bs (i + 1)) words

    at_index : (k : ℕ) → k < label_size w → get_or (byte_at bs i ∷ tabulate (category_byte ws) (8 * w)) k 0 ≡ get_or bs (i + k) 0
    at_index zero p = ap (byte_at bs) (sym (add-zero i))
    at_index (suc m) p =
        let q : m / 8 < w = omega arith in
        tabulate_at (category_byte ws) (8 * w) m 0 (omega arith)
        ∙ ap (category_byte ws) (omega arith)
        ∙ word_byte ws (m / 8) (m % 8) (omega arith)
        ∙ ap (λ (x : ℕ). x / 256 ^ (m % 8) % 256) (tabulate_at (word_from w bs (i + 1)) words (m / 8) 0 (omega arith) ∙ word_from_lem w bs (i + 1) (m / 8) q)
        ∙ number_digit 256 (byte_at bs) small (i + 1 + 8 * (m / 8)) 8 (m % 8) (omega arith)
        ∙ ap (byte_at bs) (omega arith)

-- ---- ranges

pub range_length : (w : ℕ) (x : Range) → length (range_bytes w x) ≡ range_size w
unfolding range_bytes
range_length w x = length-append (label_bytes w x.low) (label_bytes w x.high) ∙ ap₂ ◌+◌ (label_length w x.low) (label_length w x.high)

pub range_bytes_lem : (w : ℕ) (x : Range) → Range.valid_of x ≡ true → Bytes (range_bytes w x)
unfolding range_bytes
range_bytes_lem w x v =
    let ends = valid_parts x v in
    bytes_append (label_bytes w x.low) (label_bytes w x.high) (label_bytes_lem w x.low ends.low) (label_bytes_lem w x.high ends.high)

pub range_back : (w : ℕ) (bs : List ℕ) (i : ℕ) (x : Range) → Holds bs i (range_bytes w x) → Range.TypedRange x → Within w x.low → Within w x.high → range_at w bs i ≡ x
unfolding range_bytes range_at
range_back w bs i x h t wl wh =
    let n = label_length w x.low in
    ap₂ Range.range_of (label_back w bs i x.low (holds_first bs i (label_bytes w x.low) (label_bytes w x.high) h) t.low wl)
    (label_back w bs (i + label_size w) x.high (holds_second bs i (i + label_size w) (label_bytes w x.low) (label_bytes w x.high) (omega arith) h) t.high wh)

-- two parts that stand side by side
pub parts_join : (i m n : ℕ) (bs : List ℕ) → part i m bs ++ part (i + m) n bs ≡ part i (m + n) bs
parts_join i m n bs = ap (λ (l : List ℕ). part i m bs ++ take n l) (sym (drop-drop m i bs)) ∙ sym (take-add m n (drop i bs))

pub range_forth : (w : ℕ) (bs : List ℕ) (i : ℕ) → Bytes bs → w ≤ words → i + range_size w ≤ length bs → range_bytes w (range_at w bs i) ≡ part i (range_size w) bs
unfolding range_bytes range_at
range_forth w bs i small fits h =
    ap₂ ◌++◌ (label_forth w bs i small fits (omega arith)) (label_forth w bs (i + label_size w) small fits (omega arith))
    ∙ parts_join i (label_size w) (label_size w) bs

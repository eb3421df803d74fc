-- The laws of alias entries and their bytes.
use mathlib.Core.Bool.{Bool, true, false, cond, ◌&&◌, ◌||◌}
use mathlib.Core.List.{List, [], ◌∷◌, ◌++◌}
use mathlib.Core.Logic.{⊎_elim}
use mathlib.Core.Path.{◌≡◌, refl, sym, ap, ap₂, ◌∙◌}
use Prim.Native.Nat.{ℕ, zero, suc, ◌+◌, ◌^◌, ◌≤◌, ◌<◌}
use native.Mathlib.Nat.{add-zero}
use native.Mathlib.Omega.{arith}
use lib.Dec.{eqb, leb, ltb}
use lib.ListN.{drop, get_or, length, replicate, take, length-append, length-take, get_or-replicate, get_or-eq_default}
use lib.Seq.{ext_get_or, get_or-drop, get_or-take, length-take-le}
use borrow.Author.Tests.{eqb-true, le-leb, le-ltb, leb-true, lt-ltb, ltb-true}
use Rattle.std.specs.List.{fold, list_all}
use Rattle.common.specs.Index.{every, tabulate}
use Rattle.label.specs.Label
use Rattle.label.specs.Words.{word_at, words}
use Rattle.label.specs.declared.Label.{Label}
use Rattle.common.proofs.BoolLaws.{both, first_true, second_true, three_true}
use Rattle.common.proofs.ChainLaws.{every_element}
use Rattle.common.proofs.IndexLaws.{every_at, le_or_lt, tabulate_at, tabulate_length, tabulate_same}
use Rattle.label.proofs.LabelLaws.{equal_exact, valid_hierarchy}
use Rattle.common.proofs.BytesLaws.{Bytes, cons_bytes}
use Rattle.octets.proofs.ByteLaws.{first_fits}
use Rattle.label_codec.specs.Body.{byte_at, label_at, label_size}
use Rattle.alias_entry.specs.Codec.{entry_in_bytes, entry_code, entry_fits, value_fits}
use Rattle.alias_entry.specs.Entry.{abbreviation_size, abbreviation_text, entry_bytes, entry_from, entry_of, is_letter, is_name_byte, label_from, layout_of, name_byte_at, name_byte_ok, name_of, name_size, name_text, text_byte, text_bytes, text_from, valid_of, value_by_class, value_bytes, value_class, value_ok, value_size}
use Rattle.alias_entry.specs.declared.Entry.{Entry}
use Rattle.alias_entry.specs.declared.Value.{Value}
use Rattle.alias_entry.specs.declared.Value.TheVariants.{Hierarchy, Category, WholeLabel}
use Rattle.label_codec.proofs.BodyLoops.{Same, padded, same_first, same_label, same_later, valid_label_fits}
use Rattle.label_codec.proofs.BodyLaws.{Holds, Within, bytes_tabulate, label_back, label_bytes_lem, label_forth, label_length, label_typed, one_part, part, part_is, parts_join}

-- ---- a loop over all bytes

-- one that goes on where a test fails
pub folded_all : {X : Type 0} (p : X → Bool) (b : Bool) (xs : List X) → fold (λ (t : Bool) (x : X). t && p x) b xs ≡ (b && list_all p xs)
folded_all p true [] = refl
folded_all p false [] = refl
folded_all p true (x ∷ xs) = folded_all p (p x) xs
folded_all p false (x ∷ xs) = folded_all p false xs

pub all_folded : (p : ℕ → Bool) (xs : List ℕ) → fold (λ (t : Bool) (x : ℕ). t && p x) true xs ≡ every (λ k. p (byte_at xs k)) (length xs)
all_folded p xs = folded_all p true xs ∙ every_element p (λ k. p (byte_at xs k)) xs (length xs) 0 refl (λ i l. refl)

-- ---- what a valid entry has

pub category_small : (c : ℕ) (l : Label) → value_ok (Category c) l ≡ true → c < 256
unfolding value_ok
category_small c l e = ltb-true c 256 (first_true (ltb c 256) (Label.equal_of l Label.zero_label) e)

pub hierarchy_small : (h : ℕ) (l : Label) → value_ok (Hierarchy h) l ≡ true → h ≤ 199
unfolding value_ok
hierarchy_small h l e =
    valid_hierarchy (Label.label_of h []) (first_true (Label.valid_of (Label.label_of h [])) (Label.equal_of l Label.zero_label) e)

pub record Valid (e : Entry) : Type 0 where
  pub value : value_ok e.value e.label ≡ true
  pub named : 1 ≤ e.name.length
  pub name : name_of e.name.bytes e.name.length ≡ true
  pub abbreviation : name_of e.abbreviation.bytes e.abbreviation.length ≡ true

pub valid_parts : (e : Entry) → valid_of e ≡ true → Valid e
unfolding valid_of
valid_parts e h =
    let v = value_ok e.value e.label in
    let l = leb 1 e.name.length in
    let n = name_of e.name.bytes e.name.length in
    let a = name_of e.abbreviation.bytes e.abbreviation.length in
    let t = three_true v l n (first_true (v && l && n) a h) in
    record { value = t.0; named = leb-true 1 e.name.length t.1; name = t.2; abbreviation = second_true (v && l && n) a h }

-- a zero past it fits too
pub name_fits : (bs : List ℕ) (n : ℕ) → name_of bs n ≡ true → n < length bs
unfolding name_of
name_fits bs n e = ltb-true n (length bs) (three_true (ltb n (length bs)) (eqb n 0 || is_letter (byte_at bs 0)) (every (name_byte_at bs n) (length bs)) e).0

-- ---- sizes

pub value_length : (w : ℕ) (v : Value) (l : Label) → length (value_bytes w v l) ≤ label_size w
unfolding value_bytes
value_length w (Hierarchy h) l = omega arith
value_length w (Category c) l = omega arith
value_length w WholeLabel l = let n = label_length w l in omega arith

-- ---- entries that fit their bytes, and how many these are

pub record Fitting (e : Entry) : Type 0 where
  pub value : value_fits e.value e.label ≡ true
  pub name : e.name.length ≤ name_size
  pub abbreviation : e.abbreviation.length ≤ abbreviation_size

pub fitting : (e : Entry) → entry_fits e ≡ true → Fitting e
fitting e h =
    let n = leb e.name.length name_size in
    let a = leb e.abbreviation.length abbreviation_size in
    let t = three_true (value_fits e.value e.label) n a h in
    record { value = t.0; name = leb-true e.name.length name_size t.1; abbreviation = leb-true e.abbreviation.length abbreviation_size t.2 }

pub hierarchy_fits : (v : Value) (l : Label) (h : ℕ) → v ≡ Hierarchy h → value_fits v l ≡ true → h ≤ 255
hierarchy_fits v l h e f = leb-true h 255 (rw e at f)

pub category_fits : (v : Value) (l : Label) (c : ℕ) → v ≡ Category c → value_fits v l ≡ true → c ≤ 255
category_fits v l c e f = leb-true c 255 (rw e at f)

pub text_length : (bs : List ℕ) (n : ℕ) → n ≤ length bs → length (text_bytes bs n) ≡ 1 + n
text_length bs n h = let t = length-take-le n bs h in omega arith

pub value_size_lem : (w : ℕ) (v : Value) (l : Label) → value_size w (value_class v) ≡ length (value_bytes w v l)
unfolding value_size value_bytes
value_size_lem w (Hierarchy h) l = refl
value_size_lem w (Category c) l = refl
value_size_lem w WholeLabel l = sym (label_length w l)

pub entry_long : (w : ℕ) (e : Entry) → e.name.length ≤ length e.name.bytes → e.abbreviation.length ≤ length e.abbreviation.bytes
    → length (entry_bytes w e) ≡ 1 + value_size w (value_class e.value) + (1 + e.name.length) + (1 + e.abbreviation.length)
unfolding entry_bytes
entry_long w e hn ha =
    let value = value_bytes w e.value e.label in
    let name = text_bytes e.name.bytes e.name.length in
    let v = value_size_lem w e.value e.label in
    let n = text_length e.name.bytes e.name.length hn in
    let a = text_length e.abbreviation.bytes e.abbreviation.length ha in
    let l = length-append (value_class e.value ∷ value) name in
    let m = length-append (value_class e.value ∷ value ++ name) (text_bytes e.abbreviation.bytes e.abbreviation.length) in omega arith

-- a valid entry fits them
valid_value_fits : (v : Value) (l : Label) → value_ok v l ≡ true → value_fits v l ≡ true
unfolding value_ok
valid_value_fits (Hierarchy h) l e = let s = hierarchy_small h l e in le-leb h 255 (omega arith)
valid_value_fits (Category c) l e = let s = category_small c l e in le-leb c 255 (omega arith)
valid_value_fits WholeLabel l e = valid_label_fits l e

pub entry_coded : (w : ℕ) (e : Entry) → length e.name.bytes ≡ name_size → length e.abbreviation.bytes ≡ abbreviation_size → valid_of e ≡ true → entry_code w e ≡ entry_bytes w e
unfolding entry_code
entry_coded w e n a v =
    let x = valid_parts e v in
    let fits = both (both (valid_value_fits e.value e.label x.value) (le-leb e.name.length name_size (omega (arith, name_fits e.name.bytes e.name.length x.name))))
    (le-leb e.abbreviation.length abbreviation_size (omega (arith, name_fits e.abbreviation.bytes e.abbreviation.length x.abbreviation))) in rw fits

-- ---- an entry's bytes, put one part after the other where there is room for all

abbrev pub value_of : ℕ → Entry → List ℕ
value_of w e = value_class e.value ∷ value_bytes w e.value e.label

module _ (out : List ℕ) (at w : ℕ) (e : Entry) (room : at + length (entry_bytes w e) ≤ length out) where
  pub room_for_name : at + length (value_of w e ++ text_bytes e.name.bytes e.name.length) ≤ length out
  unfolding entry_bytes
  room_for_name = first_fits at (length out) (value_of w e ++ text_bytes e.name.bytes e.name.length) (text_bytes e.abbreviation.bytes e.abbreviation.length) room

  pub room_for_value : at + length (value_of w e) ≤ length out
  room_for_value = first_fits at (length out) (value_of w e) (text_bytes e.name.bytes e.name.length) room_for_name

-- ---- texts

pub text_byte_lem : (bs : List ℕ) (i n k : ℕ) → k < n → text_byte bs i n k ≡ byte_at bs (i + k)
unfolding text_byte
text_byte_lem bs i n k l = rw (lt-ltb k n l)

pub text_bytes_lem : (bs : List ℕ) (i n most : ℕ) → Bytes bs → Bytes (text_from most bs i n)
unfolding text_from text_byte
text_bytes_lem bs i n most small = bytes_tabulate (λ k. cond (ltb k n) (byte_at bs (i + k)) 0) most (λ k. go (ltb k n) (small (i + k)))
  where
    go : (b : Bool) {x : ℕ} → x < 256 → cond b x 0 < 256
    go true h = h
    go false h = omega arith

-- the text at a span: what stands there, as much as an array holds, copied over zeros
pub text_read : (most : ℕ) (bs : List ℕ) (i n : ℕ) {xs ts ys : List ℕ} → xs ≡ take n (drop i bs) → ts ≡ take most xs → ys ≡ ts
    → ys ++ drop (length ts) (replicate most 0) ≡ text_from most bs i n
unfolding text_from text_byte
text_read most bs i n {xs} {ts} {ys} e f g =
    padded ts most g (omega (arith, ap length f, length-take most xs))
    ∙ tabulate_same (byte_at ts) (λ k. cond (ltb k n) (byte_at bs (i + k)) 0) most (λ k l. ap (λ (zs : List ℕ). byte_at zs k) f ∙ get_or-take most xs k 0 l ∙ ap (λ (zs : List ℕ). byte_at zs k) e ∙ at_index k)
  where
    at_index : (k : ℕ) → byte_at (take n (drop i bs)) k ≡ cond (ltb k n) (byte_at bs (i + k)) 0
    at_index k =
        ⊎_elim (λ l. get_or-eq_default (take n (drop i bs)) 0 {n = k} (omega (arith, length-take n (drop i bs))) ∙ sym (rw (le-ltb k n l)))
        (λ l. get_or-take n (drop i bs) k 0 l ∙ get_or-drop i bs k 0 ∙ sym (rw (lt-ltb k n l))) (le_or_lt n k)

-- each byte is one that may stand at its index
name_at : (bs : List ℕ) (n : ℕ) → name_of bs n ≡ true → (k : ℕ) → k < length bs → name_byte_at bs n k ≡ true
unfolding name_of
name_at bs n e k l =
    every_at (name_byte_at bs n) (length bs) k
    (three_true (ltb n (length bs)) (eqb n 0 || is_letter (byte_at bs 0)) (every (name_byte_at bs n) (length bs)) e).2 l

-- the bytes of a name
pub name_byte : (bs : List ℕ) (n : ℕ) → name_of bs n ≡ true → (k : ℕ) → k < n → is_name_byte (byte_at bs k) ≡ true
unfolding name_byte_ok
name_byte bs n e k h = let l = name_fits bs n e in rw (lt-ltb k n h) at (name_at bs n e k (omega arith))

-- past a name stand zeros
pub name_zero : (bs : List ℕ) (n : ℕ) → name_of bs n ≡ true → (k : ℕ) → n ≤ k → byte_at bs k ≡ 0
unfolding name_byte_ok
name_zero bs n e k h = ⊎_elim (λ l. get_or-eq_default bs 0 l) (λ l. eqb-true (byte_at bs k) 0 (rw (le-ltb k n h) at (name_at bs n e k l))) (le_or_lt (length bs) k)

-- the bytes of a text read back as the text
pub text_back : (most : ℕ) (bs : List ℕ) (i n : ℕ) (xs : List ℕ) → length xs ≡ most → n ≤ most → Holds bs i (take n xs) → ((k : ℕ) → n ≤ k → byte_at xs k ≡ 0)
    → text_from most bs i n ≡ xs
unfolding text_from text_byte
text_back most bs i n xs e h here zeros =
    ext_get_or 0 (tabulate (λ k. cond (ltb k n) (byte_at bs (i + k)) 0) most) xs (tabulate_length (λ k. cond (ltb k n) (byte_at bs (i + k)) 0) most ∙ sym e)
    (λ k l. tabulate_at (λ k. cond (ltb k n) (byte_at bs (i + k)) 0) most k 0 (omega (arith, tabulate_length (λ k. cond (ltb k n) (byte_at bs (i + k)) 0) most)) ∙ at_index k)
  where
    size : length (take n xs) ≡ n
    size = length-take-le n xs (omega arith)

    at_index : (k : ℕ) → cond (ltb k n) (byte_at bs (i + k)) 0 ≡ byte_at xs k
    at_index k =
        ⊎_elim (λ l. rw (le-ltb k n l) (sym (zeros k l)))
        (λ l. rw (lt-ltb k n l) (here k (omega (arith, size)) ∙ get_or-take n xs k 0 l)) (le_or_lt n k)

-- a text that is read is written as the bytes that it was read from
pub text_forth : (most : ℕ) (bs : List ℕ) (i : ℕ) → byte_at bs i ≤ most → i + 1 + byte_at bs i ≤ length bs
    → text_bytes (text_from most bs (i + 1) (byte_at bs i)) (byte_at bs i) ≡ part i (1 + byte_at bs i) bs
unfolding text_from
text_forth most bs i h room =
    ap₂ ◌++◌ (sym (one_part bs i (omega arith)))
    (part_is (i + 1) n bs (take n (tabulate f most)) room (length-take-le n (tabulate f most) (omega (arith, tabulate_length f most))) at_index)
    ∙ parts_join i 1 n bs
  where
    n : ℕ
    n = byte_at bs i

    f : ℕ → ℕ
    f = text_byte bs (i + 1) n

    byte : (k : ℕ) → k < n → f k ≡ byte_at bs (i + 1 + k)
    byte k l = text_byte_lem bs (i + 1) n k l

    at_index : (k : ℕ) → k < n → get_or (take n (tabulate f most)) k 0 ≡ get_or bs (i + 1 + k) 0
    at_index k l = get_or-take n (tabulate f most) k 0 l ∙ tabulate_at f most k 0 (omega arith) ∙ byte k l

-- a text is the same where its bytes are
pub same_text : (most : ℕ) (xs ys : List ℕ) (i j n : ℕ) → Same xs i ys j → text_from most xs i n ≡ text_from most ys j n
unfolding text_from text_byte
same_text most xs ys i j n h = tabulate_same _ _ most (λ k l. ap (λ (b : ℕ). cond (ltb k n) b 0) (h k))

-- ---- values

pub value_bytes_lem : (w : ℕ) (v : Value) (l : Label) → Label.Typed l → value_ok v l ≡ true → Bytes (value_bytes w v l)
unfolding value_bytes value_ok
value_bytes_lem w (Hierarchy h) l t e = cons_bytes h [] (let s = hierarchy_small h l e in omega arith) (λ i. omega arith)
value_bytes_lem w (Category c) l t e = cons_bytes c [] (category_small c l e) (λ i. omega arith)
value_bytes_lem w WholeLabel l t e = label_bytes_lem w l e

zero_typed : Label.Typed Label.zero_label
zero_typed = record { hierarchy = omega arith; length_is = refl; word = word }
  where
    word : (i : ℕ) → word_at (Label.zero_label).categories i < 2 ^ 64
    word i =
        ⊎_elim (λ l. let e = get_or-eq_default (Label.zero_label).categories 0 {n = i} l in omega arith)
        (λ l. let e = get_or-replicate {A = ℕ} words i 0 0 l in omega arith) (le_or_lt words i)

-- the label of an entry that is read has what its type says
pub label_from_typed : (w : ℕ) (bs : List ℕ) (class i : ℕ) → Bytes bs → Label.Typed (label_from w bs class i)
unfolding label_from
label_from_typed w bs class i small = go (eqb class 3)
  where
    go : (b : Bool) → Label.Typed (cond b (label_at w bs i) Label.zero_label)
    go true = label_typed w bs i small
    go false = zero_typed

no_label : (l : Label) → Label.Typed l → Label.equal_of l Label.zero_label ≡ true → Label.zero_label ≡ l
no_label l t e = sym ((equal_exact l Label.zero_label t.length_is).0 e)

-- the bytes of a value read back as the value and its label
pub value_back : (w : ℕ) (bs : List ℕ) (i : ℕ) (v : Value) (l : Label) → Label.Typed l → Within w l → value_ok v l ≡ true → Holds bs i (value_bytes w v l)
    → (value_by_class (value_class v) (byte_at bs i) ≡ v) × (label_from w bs (value_class v) i ≡ l)
unfolding value_bytes value_by_class label_from value_ok
value_back w bs i (Hierarchy h) l t within e here =
    (ap Hierarchy (ap (byte_at bs) (sym (add-zero i)) ∙ here 0 (omega arith)), no_label l t (second_true (Label.valid_of (Label.label_of h [])) (Label.equal_of l Label.zero_label) e))
value_back w bs i (Category c) l t within e here =
    (ap Category (ap (byte_at bs) (sym (add-zero i)) ∙ here 0 (omega arith)), no_label l t (second_true (ltb c 256) (Label.equal_of l Label.zero_label) e))
value_back w bs i WholeLabel l t within e here = (refl, label_back w bs i l here t within)

-- a value that is read is written as the bytes that it was read from
pub value_forth : (w : ℕ) (bs : List ℕ) (class i : ℕ) → Bytes bs → w ≤ words → 1 ≤ class → class ≤ 3 → i + value_size w class ≤ length bs
    → (value_class (value_by_class class (byte_at bs i)) ≡ class) × (value_bytes w (value_by_class class (byte_at bs i)) (label_from w bs class i) ≡ part i (value_size w class) bs)
unfolding value_bytes value_by_class label_from value_size
value_forth w bs zero i small fits low high room = absurd (omega arith)
value_forth w bs (suc zero) i small fits low high room = (refl, sym (one_part bs i (omega arith)))
value_forth w bs (suc (suc zero)) i small fits low high room = (refl, sym (one_part bs i (omega arith)))
value_forth w bs (suc (suc (suc zero))) i small fits low high room = (refl, label_forth w bs i small fits room)
value_forth w bs (suc (suc (suc (suc class)))) i small fits low high room = absurd (omega arith)

-- ---- an entry is the same where its bytes are

-- the entry of a class and two lengths, its class at index i
abbrev made : ℕ → List ℕ → ℕ → ℕ → ℕ → ℕ → Entry
made w bs i c n a =
    entry_of (value_by_class c (byte_at bs (i + 1))) (label_from w bs c (i + 1)) (name_text (text_from name_size bs (i + 1 + value_size w c + 1) n) n)
    (abbreviation_text (text_from abbreviation_size bs (i + 1 + value_size w c + 1 + n + 1) a) a)

pub same_entry : (w : ℕ) (xs ys : List ℕ) (i j : ℕ) → Same xs i ys j → entry_in_bytes w xs i ≡ entry_in_bytes w ys j
unfolding entry_from layout_of label_from
same_entry w xs ys i j h =
    ap (λ (k : ℕ). made w xs i k (byte_at xs (i + 1 + value_size w k)) (byte_at xs (i + 1 + value_size w k + 1 + byte_at xs (i + 1 + value_size w k)))) (same_first xs ys i j h)
    ∙ ap (λ (k : ℕ). made w xs i c k (byte_at xs (i + 1 + value_size w c + 1 + k))) (same_first xs ys p q lengths)
    ∙ ap (made w xs i c n) (same_first xs ys (p + 1 + n) (q + 1 + n) abbreviations) ∙ parts
  where
    c : ℕ
    c = byte_at ys j

    p : ℕ
    p = i + 1 + value_size w c

    q : ℕ
    q = j + 1 + value_size w c

    n : ℕ
    n = byte_at ys q

    a : ℕ
    a = byte_at ys (q + 1 + n)

    value : Same xs (i + 1) ys (j + 1)
    value = same_later xs ys i j 1 h

    lengths : Same xs p ys q
    lengths = same_later xs ys (i + 1) (j + 1) (value_size w c) value

    names : Same xs (p + 1) ys (q + 1)
    names = same_later xs ys p q 1 lengths

    abbreviations : Same xs (p + 1 + n) ys (q + 1 + n)
    abbreviations = same_later xs ys (p + 1) (q + 1) n names

    label : label_from w xs c (i + 1) ≡ label_from w ys c (j + 1)
    label = ap (λ (l : Label). cond (eqb c 3) l Label.zero_label) (same_label xs ys w (i + 1) (j + 1) value)

    parts : made w xs i c n a ≡ made w ys j c n a
    parts =
        ap₂ (λ (b : ℕ) (l : Label). entry_of (value_by_class c b) l (name_text (text_from name_size xs (p + 1) n) n) (abbreviation_text (text_from abbreviation_size xs (p + 1 + n + 1) a) a))
        (same_first xs ys (i + 1) (j + 1) value) label
        ∙ ap₂ (λ (s t : List ℕ). entry_of (value_by_class c (byte_at ys (j + 1))) (label_from w ys c (j + 1)) (name_text s n) (abbreviation_text t a))
        (same_text name_size xs ys (p + 1) (q + 1) n names) (same_text abbreviation_size xs ys (p + 1 + n + 1) (q + 1 + n + 1) a (same_later xs ys (p + 1 + n) (q + 1 + n) 1 abbreviations))

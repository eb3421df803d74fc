-- The laws of what a body of an alias entry is judged by: it is the form of the entry that stands in it, and that this is valid.
use mathlib.Core.Bool.{Bool, true, false, ◌&&◌, ◌||◌, and-true, true≢false}
use mathlib.Core.List.{List, []}
use mathlib.Core.Logic.{⊎_elim}
use mathlib.Core.Path.{◌≡◌, refl, sym, ap, ap₂, ◌∙◌}
use Prim.Native.Nat.{ℕ, zero, suc, ◌+◌, ◌≤◌, ◌<◌}
use native.Mathlib.Numerals.{add-one}
use native.Mathlib.Omega.{arith}
use lib.Dec.{eqb, leb, ltb}
use lib.ListN.{drop, length, take, length-drop}
use lib.Seq.{get_or-drop, get_or-take, length-take-le, take_all}
use borrow.Author.Tests.{eq-eqb, le-ltb, lt-ltb}
use Rattle.common.specs.Answer.{is_granted, require, granted}
use Rattle.common.specs.Index.{every, tabulate}
use Rattle.label.specs.Label
use Rattle.common.proofs.BoolLaws.{same_truth}
use Rattle.common.proofs.IndexLaws.{every_all, every_at, le_or_lt, tabulate_at, tabulate_is, tabulate_length}
use Rattle.label.proofs.LabelLaws.{equal_exact}
use Rattle.frame.specs.Frame.{body_of, sound_body}
use Rattle.frame.proofs.FrameLoops.{sound_whole}
use Rattle.hexline.specs.Accept.{accepted_body}
use Rattle.hexline.specs.Internal.Accept.{span_part, value_byte_ok}
use Rattle.label_codec.specs.Body.{byte_at, label_at, line_words}
use Rattle.alias_entry.specs.Entry.{abbreviation_bytes, abbreviation_size, at_most, entry_from, is_letter, is_name_byte, label_from, layout_of, name_byte_at, name_byte_ok, name_bytes, name_of, name_size, past, text_byte, text_from, text_ok, valid_of, value_by_class, value_ok, value_size}
use Rattle.alias_entry.specs.Internal.Spans.{entry_size, span_bytes}
use Rattle.hexline.specs.Line.{contents_of, entry_form, entry_in, read_entry_line}
use Rattle.alias_entry.specs.declared.Entry.{Entry}
use Rattle.alias_entry.specs.declared.bytes.Layout.{Layout}
use Rattle.alias_entry.specs.declared.bytes.Span.{Span}
use Rattle.alias_entry.proofs.EntryLaws.{text_byte_lem}
use Rattle.hexline.proofs.LineLaws.{by_contents, no_body}
use Rattle.hexline.specs.Internal.Contents.{entry_form_fits, entry_form_parts, entry_form_within}
use Rattle.hexline.proofs.StandingLaws.{text_stands}

pub every_more : (f : ℕ → Bool) (i : ℕ) → every f (i + 1) ≡ (every f i && f i)
unfolding every
every_more f i = rw add-one

-- ---- the value

pub value_judged : (w : ℕ) (bs : List ℕ) (class i : ℕ) → byte_at bs i < 256 → 1 ≤ class → class ≤ 3
    → value_ok (value_by_class class (byte_at bs i)) (label_from w bs class i) ≡ value_byte_ok class (byte_at bs i)
unfolding value_ok value_by_class label_from label_at Label.valid_of
value_judged w bs zero i small low high = absurd (omega arith)
value_judged w bs (suc zero) i small low high =
    rw ((equal_exact Label.zero_label Label.zero_label refl).1 refl) (and-true (leb (byte_at bs i) 199))
value_judged w bs (suc (suc zero)) i small low high = rw (lt-ltb (byte_at bs i) 256 small) ((equal_exact Label.zero_label Label.zero_label refl).1 refl)
value_judged w bs (suc (suc (suc zero))) i small low high = refl
value_judged w bs (suc (suc (suc (suc class)))) i small low high = absurd (omega arith)

-- ---- a text

pub text_judged : (most : ℕ) (bs : List ℕ) (i n : ℕ) → n < most → i + n ≤ length bs → name_of (text_from most bs i n) n ≡ text_ok (take n (drop i bs))
unfolding name_of name_byte_ok text_from text_byte text_ok
text_judged most bs i n h room =
    ap₂ ◌&&◌ begins (same_truth (every (name_byte_at xs n) (length xs)) (every (λ k. is_name_byte (byte_at t k)) (length t)) to from)
  where
    f : ℕ → ℕ
    f = text_byte bs i n

    xs : List ℕ
    xs = tabulate f most

    t : List ℕ
    t = take n (drop i bs)

    size : length xs ≡ most
    size = tabulate_length f most

    long : length t ≡ n
    long = let d = length-drop i bs in length-take-le n (drop i bs) (omega arith)

    same : (k : ℕ) → k < n → byte_at xs k ≡ byte_at t k
    same k l = tabulate_at f most k 0 (omega arith) ∙ text_byte_lem bs i n k l ∙ sym (get_or-take n (drop i bs) k 0 l ∙ get_or-drop i bs k 0)

    first : (m : ℕ) → (0 < m → byte_at xs 0 ≡ byte_at t 0) → (eqb m 0 || is_letter (byte_at xs 0)) ≡ (eqb m 0 || is_letter (byte_at t 0))
    first zero e = refl
    first (suc m) e = rw (e (omega arith))

    begins : (ltb n (length xs) && (eqb n 0 || is_letter (byte_at xs 0))) ≡ (eqb (length t) 0 || is_letter (byte_at t 0))
    begins = rw (lt-ltb n (length xs) (omega (arith, size)), long) (first n (λ l. same 0 l))

    to : every (name_byte_at xs n) (length xs) ≡ true → every (λ k. is_name_byte (byte_at t k)) (length t) ≡ true
    to e =
        every_all (λ k. is_name_byte (byte_at t k)) (length t)
        (λ k l. let b : k < n = omega (arith, long) in
        ap is_name_byte (sym (same k b)) ∙ (rw (lt-ltb k n b) at (every_at (name_byte_at xs n) (length xs) k e (omega (arith, size)))))

    from : every (λ k. is_name_byte (byte_at t k)) (length t) ≡ true → every (name_byte_at xs n) (length xs) ≡ true
    from e =
        every_all (name_byte_at xs n) (length xs)
        (λ k l. ⊎_elim
        (λ b. rw (le-ltb k n b) (eq-eqb (byte_at xs k) 0 (tabulate_at f most k 0 (omega (arith, size)) ∙ (rw (le-ltb k n b)))))
        (λ b. rw (lt-ltb k n b) (ap is_name_byte (same k b) ∙ every_at (λ k. is_name_byte (byte_at t k)) (length t) k e (omega (arith, long)))) (le_or_lt n k))

-- ---- a body of the form of an alias entry's

abbreviation_at : (w : ℕ) (bs : List ℕ) (i : ℕ) → (layout_of w bs i).abbreviation.at ≡ past (layout_of w bs i).name + 1
unfolding layout_of
abbreviation_at w bs i = refl

-- a body of the form of an entry's, of any kind and with sets of any number of words, has room in a buffer for it
pub form_room : (kind w : ℕ) (bs : List ℕ) → entry_form kind w bs ≡ true → length bs ≤ 1 + entry_size w
form_room kind w bs e = (entry_form_within kind w bs e).1

-- of no bytes nothing is read
pub no_entry : (kind w : ℕ) → entry_form kind w [] ≡ false
no_entry kind w = go (entry_form kind w []) refl
  where
    go : (b : Bool) → entry_form kind w [] ≡ b → b ≡ false
    go true e = let h : 1 ≤ length {A = ℕ} [] = (entry_form_within kind w [] e).0 in absurd (omega arith)
    go false e = refl

-- the parts of the entry lie in the body
pub form_parts : (kind w : ℕ) (bs : List ℕ) {p : Layout} → p ≡ layout_of w bs 1 → entry_form kind w bs ≡ true
    → (2 + value_size w p.class ≤ length bs) × (past p.name ≤ length bs) × (past p.abbreviation ≤ length bs)
unfolding layout_of
form_parts kind w bs q e =
    let f = entry_form_parts kind w bs e in
    let l = layout_of w bs 1 in
    let v : l.name.at ≡ 2 + value_size w l.class + 1 = refl in
    let at = abbreviation_at w bs 1 in
    rw q (omega (arith, f.size, at, v), omega (arith, f.size, at), omega (arith, f.size))

-- what is tested of such a body
abbrev pub judged : ℕ → List ℕ → Bool
judged w bs =
    value_byte_ok (layout_of w bs 1).class (byte_at bs 2) && leb 1 (layout_of w bs 1).name.length
    && text_ok (take (layout_of w bs 1).name.length (drop (layout_of w bs 1).name.at bs))
    && text_ok (drop (layout_of w bs 1).abbreviation.at bs)

pub body_judged : (kind w : ℕ) (bs : List ℕ) → byte_at bs 2 < 256 → entry_form kind w bs ≡ true → valid_of (entry_in w bs) ≡ judged w bs
unfolding valid_of entry_from
body_judged kind w bs small e =
    let f = entry_form_parts kind w bs e in
    let p = layout_of w bs 1 in
    let n = p.name in
    let a = p.abbreviation in
    let at = abbreviation_at w bs 1 in
    let d = length-drop a.at bs in
    ap₂ ◌&&◌ (ap₂ ◌&&◌ (ap (λ (v : Bool). v && leb 1 n.length) (value_judged w bs p.class 2 small f.low f.high))
    (text_judged name_size bs n.at n.length (omega (arith, f.name)) (omega (arith, f.size))))
    (text_judged abbreviation_size bs a.at a.length (omega (arith, f.abbreviation)) (omega (arith, f.size))
    ∙ ap text_ok (take_all a.length (drop a.at bs) (omega (arith, f.size))))

-- ---- the texts of the entry in such a body

-- the bytes at a span that lies in a body
part_stands : (bs : List ℕ) (s : Span) → past s ≤ length bs → span_part bs s ≡ span_bytes bs s
unfolding span_bytes
part_stands bs s h =
    let d = length-drop s.at bs in
    tabulate_is (λ k. byte_at bs (s.at + k)) (span_part bs s) s.length 0 (length-take-le s.length (drop s.at bs) (omega arith))
    (λ k b. get_or-take s.length (drop s.at bs) k 0 b ∙ get_or-drop s.at bs k 0)

at_most_all : (most : ℕ) (s : Span) → s.length ≤ most → at_most most s ≡ s
at_most_all most s h = ap (λ (n : ℕ). span_for s.at n) (omega arith)
  where
    span_for : ℕ → ℕ → Span
    span_for i n = record { at = i; length = n }

pub texts_at : (kind w : ℕ) (bs : List ℕ) {p : Layout} → p ≡ layout_of w bs 1 → entry_form kind w bs ≡ true
    → (span_part bs p.name ≡ name_bytes (entry_in w bs)) × (span_part bs p.abbreviation ≡ abbreviation_bytes (entry_in w bs))
unfolding entry_from
texts_at kind w bs q form =
    let f = entry_form_parts kind w bs form in
    let r = form_parts kind w bs refl form in
    let n = (layout_of w bs 1).name in
    let a = (layout_of w bs 1).abbreviation in
    rw q (
      part_stands bs n r.1 ∙ ap (span_bytes bs) (sym (at_most_all name_size n (omega (arith, f.name)))) ∙ sym (text_stands name_size bs n),
      part_stands bs a r.2 ∙ ap (span_bytes bs) (sym (at_most_all abbreviation_size a (omega (arith, f.abbreviation)))) ∙ sym (text_stands abbreviation_size bs a),
    )

-- ---- a line is judged by what is decoded

pub accepted_by : (line : List ℕ) → is_granted (read_entry_line line) ≡ accepted_body (sound_body line (1 + entry_size line_words))
unfolding contents_of
accepted_by line =
    let bs = sound_body line (1 + entry_size line_words) in
    ap is_granted (by_contents (entry_form 4 line_words) (entry_in line_words) valid_of line (1 + entry_size line_words) entry_form_fits)
    ∙ go (accepted_body bs) (entry_in line_words bs)
  where
    go : (v : Bool) (x : Entry) → is_granted (require v 22 (granted x)) ≡ v
    go true x = refl
    go false x = refl

-- what is decoded of an accepted line is its body
pub accepted_whole : (line : List ℕ) → is_granted (read_entry_line line) ≡ true → sound_body line (1 + entry_size line_words) ≡ body_of line
accepted_whole line e = sound_whole line (1 + entry_size line_words)
    (λ n. true≢false (sym e ∙ accepted_by line ∙ ap accepted_body n ∙ ap (λ (f : Bool). f && valid_of (entry_in line_words [])) (no_body (entry_form 4 line_words) (entry_in line_words) valid_of line (1 + entry_size line_words) entry_form_fits)))

-- What the loops over a table's lines and over the bytes of names need of the definitions.
use mathlib.Core.Bool.{Bool, false, true, ◌&&◌, ◌||◌}
use mathlib.Core.List.{List, [], ◌∷◌}
use mathlib.Core.Path.{◌≡◌, refl, sym, ap, ◌∙◌}
use Prim.Native.Nat.{ℕ, zero, suc, ◌+◌, ◌-◌, ◌≤◌, ◌<◌}
use native.Mathlib.Nat.{sub-zero}
use native.Mathlib.Omega.{arith}
use lib.Dec.{eqb, leb}
use lib.Seq.{ext_get_or}
use borrow.Author.Tests.{eq-eqb, eqb-true, ne_eqb}
use lib.ListN.{get_or, length, length-map, get_or-eq_default}
use Rattle.common.specs.Index.{every, first_from, last_below}
use Rattle.label.specs.declared.Label.{Label}
use Rattle.common.proofs.IndexLaws.{every_all, every_at, tabulate_at, tabulate_length}
use Rattle.common.proofs.BoolLaws.{both, first_true, same_truth, second_true}
use Rattle.common.proofs.SearchLaws.{first_same}
use Rattle.octets.specs.Bytes.{same_bytes}
use Rattle.octets.proofs.ByteLaws.{same_is, same_self}
use Rattle.frame.specs.Frame.{body_of}
use Rattle.label_codec.specs.Body.{byte_at}
use Rattle.alias_entry.specs.Entry.{abbreviation_bytes, name_bytes}
use Rattle.alias_entry.specs.Internal.Spans.{span_bytes}
use Rattle.hexline.specs.Line.{abbreviation_in, name_in, standing_in}
use Rattle.alias_entry.specs.declared.Entry.{Entry}
use Rattle.alias_entry.specs.declared.bytes.Span.{Span}
use Rattle.alias_entry.specs.declared.Value.{Value}
use Rattle.alias_entry.specs.declared.Value.TheVariants.{Hierarchy, Category, WholeLabel}
use Rattle.hexline.proofs.StandingLaws.{abbreviation_stands, name_stands, span_at, span_length}
use Rattle.octets.specs.Lines.{line_at}
use Rattle.alias.specs.Lines.{entries_by, entries_of, entry_at, lines_by, part_at, table_entries}
use Rattle.alias.specs.declared.lookup.Table.{Table}
use Rattle.alias.specs.Lookup.{called_of, same_value}
use Rattle.alias.specs.Internal.Names.{span_is}
use Rattle.alias.specs.Table.{shares_of}

-- ---- the bytes at a span, compared with those of a list

pub span_same : (bs : List ℕ) (s : Span) (f : ℕ → ℕ) (ys : List ℕ) → ((i : ℕ) → i < length ys → f i ≡ get_or ys i 0) → span_is bs s f (length ys) ≡ same_bytes (span_bytes bs s) ys
unfolding span_is
span_same bs s f ys h = same_truth (span_is bs s f (length ys)) (same_bytes xs ys) there back
  where
    xs : List ℕ
    xs = span_bytes bs s

    size : length xs ≡ s.length
    size = span_length bs s

    test : ℕ → Bool
    test i = eqb (byte_at bs (s.at + i)) (f i)

    there : span_is bs s f (length ys) ≡ true → same_bytes xs ys ≡ true
    there e =
        let n = eqb-true s.length (length ys) (first_true (eqb s.length (length ys)) (every test (length ys)) e) in
        let l = second_true (eqb s.length (length ys)) (every test (length ys)) e in
        let same : xs ≡ ys = ext_get_or 0 xs ys (size ∙ n) (λ i b. span_at bs s i (omega (arith, size)) ∙ eqb-true _ _ (every_at test (length ys) i l (omega (arith, size))) ∙ h i (omega (arith, size))) in
        ap (same_bytes xs) (sym same) ∙ same_self xs

    back : same_bytes xs ys ≡ true → span_is bs s f (length ys) ≡ true
    back e =
        let same = same_is xs ys e in
        let n : s.length ≡ length ys = sym size ∙ ap length same in
        both (eq-eqb s.length (length ys) n)
        (every_all test (length ys) (λ i b. eq-eqb _ _ (sym (span_at bs s i (omega arith)) ∙ ap (λ (zs : List ℕ). get_or zs i 0) same ∙ sym (h i b))))

-- ---- the names of the entry in a line

-- a test of its name, or of its abbreviation where that is not empty, by the bytes where they stand
pub named_by : (p : List ℕ → Bool) (line : List ℕ) {n a : Span} {x y : Bool} → n ≡ name_in line → a ≡ abbreviation_in line
    → x ≡ p (span_bytes (body_of line) n) → y ≡ p (span_bytes (body_of line) a)
    → (x || (leb 1 a.length && y))
    ≡ (p (name_bytes (standing_in line)) || (leb 1 (length (abbreviation_bytes (standing_in line))) && p (abbreviation_bytes (standing_in line))))
named_by p line {n} {a} {x} {y} e f g h =
    rw (g, h, e, f, name_stands line, abbreviation_stands line, span_length (body_of line) (abbreviation_in line))

-- ---- values that `==` tells apart, or does not

pub equal_values : (v : Value) (l m : Label) → (v ≡ WholeLabel → ⊥) → true ≡ same_value v l v m
unfolding same_value
equal_values (Hierarchy h) l m d = sym (eq-eqb h h refl)
equal_values (Category c) l m d = sym (eq-eqb c c refl)
equal_values WholeLabel l m d = absurd (d refl)

pub other_values : (u v : Value) (l m : Label) → (u ≡ v → ⊥) → false ≡ same_value u l v m
unfolding same_value
other_values (Hierarchy h) (Hierarchy g) l m d = sym (ne_eqb h g (λ e. d (ap Hierarchy e)))
other_values (Hierarchy h) (Category c) l m d = refl
other_values (Hierarchy h) WholeLabel l m d = refl
other_values (Category c) (Hierarchy g) l m d = refl
other_values (Category c) (Category e) l m d = sym (ne_eqb c e (λ q. d (ap Category q)))
other_values (Category c) WholeLabel l m d = refl
other_values WholeLabel (Hierarchy g) l m d = refl
other_values WholeLabel (Category e) l m d = refl
other_values WholeLabel WholeLabel l m d = absurd (d refl)

-- ---- the lines of a table by their starts, and their entries

module _ (bytes starts : List ℕ) where
  pub lines_length : length (lines_by bytes starts) ≡ length starts - 1
  unfolding lines_by
  lines_length = tabulate_length (part_at bytes starts) (length starts - 1)

  pub lines_at : (k : ℕ) → k < length starts - 1 → line_at (lines_by bytes starts) k ≡ part_at bytes starts k
  unfolding lines_by
  lines_at k h = tabulate_at (part_at bytes starts) (length starts - 1) k [] h

  pub lines_past : (k : ℕ) → length starts - 1 ≤ k → line_at (lines_by bytes starts) k ≡ []
  lines_past k h = let l = lines_length in get_or-eq_default (lines_by bytes starts) [] (omega arith)

pub entry_of : (ls : List (List ℕ)) (k : ℕ) → k < length ls → entry_at (entries_of ls) k ≡ standing_in (line_at ls k)
unfolding entries_of
entry_of [] k h = absurd (omega arith)
entry_of (l ∷ ls) zero h = refl
entry_of (l ∷ ls) (suc k) h = entry_of ls k (omega arith)

module _ (bytes starts : List ℕ) where
  pub entries_length : length (entries_by bytes starts) ≡ length starts - 1
  unfolding entries_of
  entries_length = length-map (lines_by bytes starts) standing_in ∙ lines_length bytes starts

  pub entries_at : (k : ℕ) → k < length starts - 1 → entry_at (entries_by bytes starts) k ≡ standing_in (line_at (lines_by bytes starts) k)
  entries_at k h = let l = lines_length bytes starts in entry_of (lines_by bytes starts) k (omega arith)

  -- a search of all entries
  pub search_start : (f : ℕ → Bool) {n : ℕ} → n ≡ length starts - 1 → first_from f 0 (n - 0) ≡ first_from f 0 (length (entries_by bytes starts))
  search_start f {n} e = rw (entries_length, ← e, sub-zero)

last_same : (f g : ℕ → Bool) (n : ℕ) → ((j : ℕ) → j < n → f j ≡ g j) → last_below f n ≡ last_below g n
unfolding last_below
last_same f g zero h = refl
last_same f g (suc n) h = rw (h n (omega arith), last_same f g n (λ j a. h j (omega arith)))

-- ---- searches of the entries of a table, by the lines that they stand in

module _ (t : Table) (p : Entry → Bool) where
  abbrev pub of_line : ℕ → Bool
  of_line k = p (standing_in (line_at (lines_by t.bytes.now t.starts.now) k))

  abbrev pub of_entry : ℕ → Bool
  of_entry k = p (entry_at (table_entries t) k)

  pub same_test : (k : ℕ) → k < length t.starts.now - 1 → of_line k ≡ of_entry k
  same_test k h = sym (ap p (entries_at t.bytes.now t.starts.now k h))

  pub first_entry : (k n : ℕ) → n ≡ length t.starts.now - 1 → first_from of_line k (n - k) ≡ first_from of_entry k (length (table_entries t) - k)
  first_entry k n e = rw (entries_length t.bytes.now t.starts.now, ← e) (first_same of_line of_entry k (n - k) (λ j a b. same_test j (omega arith)))

  pub find_entry : (n : ℕ) → n ≡ length t.starts.now - 1 → first_from of_line 0 (n - 0) ≡ first_from of_entry 0 (length (table_entries t))
  find_entry n e = first_entry 0 n e ∙ ap (first_from of_entry 0) (sub-zero (length (table_entries t)))

  pub last_entry : (n : ℕ) → n ≡ length t.starts.now - 1 → last_below of_line n ≡ last_below of_entry (length (table_entries t))
  last_entry n e = rw (entries_length t.bytes.now t.starts.now, ← e) (last_same of_line of_entry n (λ j a. same_test j (omega arith)))

-- ---- the tests of the searches

abbrev pub called_at : List Entry → List ℕ → ℕ → Bool
called_at es text k = called_of (entry_at es k) text

abbrev pub shares_at : List Entry → ℕ → ℕ → Bool
shares_at es k j = shares_of (entry_at es j) (entry_at es k)

-- Names, and categories one by one, as reading meets them.
use mathlib.Core.Bool.{not}
use mathlib.Core.List.{List, [], ◌∷◌}
use mathlib.Core.Path.{◌≡◌, refl, ap}
use Prim.Native.Nat.{ℕ, ◌+◌, ◌≤◌, ◌<◌}
use native.Mathlib.Omega.{arith}
use lib.Dec.{eqb}
use lib.ListN.{drop, get_or, length, drop_of_length-le}
use lib.Seq.{drop-cons}
use native.Mathlib.Numerals.{add-one}
use Rattle.std.specs.List.{slice_split, onto_first}
use Rattle.std.proofs.lemmas.List.Splits.{length-slice_split}
use Rattle.std.specs.Prelude.{Option, None, Some}
use Rattle.common.specs.Answer.{Answer, and_then, granted, require}
use Rattle.common.proofs.AnswerLaws.{require_then, then_then}
use Rattle.common.specs.Index.{first_from}
use Rattle.common.proofs.SearchLaws.{first_least}
use Rattle.label.specs.Label.{label_of}
use Rattle.label.specs.Words.{includes_of, single_of, union_of}
use Rattle.octets.specs.Bytes.{on_first, split}
use Rattle.hexline.specs.Line.{standing_in}
use Rattle.alias_entry.specs.declared.Entry.{Entry}
use Rattle.alias_entry.specs.declared.Value.{Value}
use Rattle.octets.specs.Lines.{line_at}
use Rattle.alias.specs.Lines.{entries_by, lines_by}
use Rattle.alias.specs.Lookup.{find_of}
use Rattle.alias.proofs.LookupLaws.{called_at, entries_at, entries_length}
use Rattle.text.specs.Internal.Named.{added_to, value_named}
use Rattle.text.specs.Read.{categories_read, category_by, category_named, composed_of, entry_named, found_entry, hierarchy_by, hierarchy_named, label_by, label_named, no_categories, plain}
use Rattle.text.specs.Write.{comma}

-- ---- what a text names, by what the search for it finds

-- the entry that stands in the line that is found
abbrev pub entry_in_line : List ℕ → List ℕ → Option ℕ → Answer Entry
entry_in_line bytes starts None = plain
entry_in_line bytes starts (Some k) = granted (standing_in (line_at (lines_by bytes starts) k))

module _ (bytes starts text : List ℕ) where
  entry_by : entry_named (entries_by bytes starts) text ≡ entry_in_line bytes starts (find_of (entries_by bytes starts) text)
  unfolding entry_named find_of
  entry_by = go (first_from (called_at es text) 0 (length es)) refl
    where
      es : List Entry
      es = entries_by bytes starts

      go : (r : Option ℕ) → first_from (called_at es text) 0 (length es) ≡ r → found_entry es r ≡ entry_in_line bytes starts r
      go None e = refl
      go (Some k) e =
          let m = (first_least (called_at es text) 0 (length es) k e).1 in
          let n = entries_length bytes starts in
          ap granted (entries_at bytes starts k (omega arith))

  pub value_by : value_named (entries_by bytes starts) text ≡ and_then (entry_in_line bytes starts (find_of (entries_by bytes starts) text)) (λ (e : Entry). granted e.value)
  unfolding value_named
  value_by = rw entry_by

  pub label_by_line : label_named (entries_by bytes starts) text ≡ and_then (entry_in_line bytes starts (find_of (entries_by bytes starts) text)) (λ (e : Entry). label_by e.value e.label)
  unfolding label_named
  label_by_line = rw entry_by

-- ---- what follows the value that a text names

module _ (es : List Entry) (text : List ℕ) where
  pub added_by : (ws : List ℕ) → added_to es ws text
      ≡ and_then (value_named es text) (λ (v : Value). and_then (category_by v) (λ (c : ℕ). require (not (includes_of ws (single_of c))) 22 (granted (union_of ws (single_of c)))))
  unfolding added_to category_named value_named
  added_by ws = rw (then_then, then_then)

  pub composed_by : (names : List ℕ) → composed_of es text names
      ≡ and_then (value_named es text) (λ (v : Value). and_then (hierarchy_by v) (λ (h : ℕ). and_then (categories_read es no_categories (split comma names)) (λ (ws : List ℕ). granted (label_of h ws))))
  unfolding composed_of hierarchy_named value_named
  composed_by names = rw (then_then, then_then)

-- ---- categories

-- the pieces that the library cuts a text into are the fields
pub split_is : (b : ℕ) (xs : List ℕ) → split b xs ≡ slice_split (λ x. eqb x b) xs
unfolding split
split_is b [] = refl
split_is b (x ∷ xs) =
    let n = length-slice_split (λ x. eqb x b) xs in
    rw (split_is b xs, onto_is x (slice_split (λ x. eqb x b) xs) (omega arith))
  where
    onto_is : (x : ℕ) (fs : List (List ℕ)) → 0 < length fs → on_first x fs ≡ onto_first x fs
    onto_is x [] h = absurd (omega arith)
    onto_is x (f ∷ fs) h = refl

-- the next name, the n'th of them all, and those behind it
module _ (es : List Entry) (ws : List ℕ) (all : List (List ℕ)) (n : ℕ) where
  pub read_next : (name : List ℕ) → (n < length all) × (name ≡ get_or all n name)
      → categories_read es ws (drop n all) ≡ and_then (added_to es ws name) (λ (us : List ℕ). categories_read es us (drop (n + 1) all))
  unfolding categories_read added_to
  read_next name h = rw (add-one, drop-cons all n name h.0, ← h.1, then_then) (simp require_then)

  pub read_end : length all ≡ n → categories_read es ws (drop n all) ≡ granted ws
  unfolding categories_read
  read_end h = let l : length all ≤ n = omega arith in rw (drop_of_length-le all l)

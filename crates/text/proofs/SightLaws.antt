-- What is read is valid and in sight, and every refusal is the plain 22.
use mathlib.Core.Bool.{Bool, true, false, cond, not}
use mathlib.Core.List.{List, [], ◌∷◌}
use Rattle.std.specs.Prelude.{Option, None, Some}
use mathlib.Core.Path.{◌≡◌, refl}
use Prim.Native.Nat.{ℕ, ◌+◌, ◌≤◌}
use native.Mathlib.Omega.{arith}
use lib.Dec.{ltb}
use lib.ListN.{drop, length, take}
use Rattle.common.specs.Answer.{Answer, and_then, granted, refused, require}
use Rattle.label.specs.Caller.{caller_valid, sees_of}
use Rattle.common.specs.Index.{first_from}
use Rattle.label.specs.Label
use Rattle.label.specs.Words.{includes_of, single_of, union_of}
use Rattle.label.specs.declared.Label.{Label}
use Rattle.label.specs.declared.caller.Caller.{Caller}
use Rattle.common.proofs.AnswerLaws.{grants_same}
use Rattle.label.proofs.LabelLaws.{hierarchy_valid}
use Rattle.common.proofs.SearchLaws.{first_least}
use Rattle.range.specs.Range
use Rattle.range.specs.declared.Range.{Range}
use Rattle.range.proofs.RangeLaws.{parts_valid}
use Rattle.octets.specs.Bytes.{blank, index_of, same_bytes, split}
use Rattle.alias_entry.specs.Entry as entries
use Rattle.alias_entry.specs.declared.Entry.{Entry}
use Rattle.alias_entry.specs.declared.Value.{Value}
use Rattle.alias_entry.specs.declared.Value.TheVariants.{Hierarchy, Category, WholeLabel}
use Rattle.alias_entry.proofs.EntryLaws.{hierarchy_small, valid_parts}
use Rattle.alias.specs.Lines.{entry_at}
use Rattle.alias.specs.Lookup.{called_of, find_of}
use Rattle.alias.proofs.TableLaws.{Good}
use Rattle.text.specs.Read.{begins_with, categories_read, category_by, category_named, composed_of, ends_of, high_of, entry_named, found_entry, hierarchy_by, hierarchy_named, label_by, label_in_text, label_named, label_seen, no_categories, range_from, read_label_text, read_range_text}
use Rattle.text.specs.Write.{colon, comma, hidden_high, high_marker, low_marker}

-- ---- what an answer grants, and how it refuses

-- an answer that, if it is a refusal, is the plain 22
abbrev pub Plain : {A : Type 0} → Answer A → Type 0
Plain a = (n : ℕ) (detail : Option ℕ) → a ≡ refused n detail → (n ≡ 22) × (detail ≡ None)

-- a label that is valid and that the subject may see
pub record InSight (s : Caller) (l : Label) : Type 0 where
  pub valid : Label.valid_of l ≡ true
  pub seen : sees_of s l ≡ true

-- a range that is valid and both of whose ends the subject may see
pub record RangeInSight (s : Caller) (x : Range) : Type 0 where
  pub valid : Range.valid_of x ≡ true
  pub low : sees_of s x.low ≡ true
  pub high : sees_of s x.high ≡ true

-- an answer that grants only what has a property, and refuses only with the plain 22
pub data Reads {A : Type 0} (P : A → Type 0) : Answer A → Type 0 where
  grant : {x : A} → P x → Reads P (granted x)
  refusal : Reads P (refused 22 None)

pub reads_plain : {A : Type 0} {P : A → Type 0} {a : Answer A} → Reads P a → Plain a
reads_plain (grant p) n detail e = cc
reads_plain refusal n detail e = (cc, cc)

pub reads_grant : {A : Type 0} {P : A → Type 0} {a : Answer A} (y : A) → Reads P a → a ≡ granted y → P y
reads_grant y (grant {x} p) e = rw (grants_same x y e) at p
reads_grant y refusal e = cc

reads_require : {A : Type 0} {P : A → Type 0} (t : Bool) {rest : Answer A} → (t ≡ true → Reads P rest) → Reads P (require t 22 rest)
reads_require true h = h refl
reads_require false h = refusal

reads_then : {A B : Type 0} {P : A → Type 0} {Q : B → Type 0} {a : Answer A} (f : A → Answer B) → Reads P a → ((x : A) → P x → Reads Q (f x)) → Reads Q (and_then a f)
reads_then f (grant {x} p) h = h x p
reads_then f refusal h = refusal

reads_cond : {A : Type 0} {P : A → Type 0} (t : Bool) {a b : Answer A} → Reads P a → Reads P b → Reads P (cond t a b)
reads_cond true p q = p
reads_cond false p q = q

-- ---- what is read: every refusal is the plain 22, whatever the table holds, and what is granted has its property if the table is good

module _ (es : List Entry) where
  reads_entry : (text : List ℕ) → Reads (λ (e : Entry). Good es → entries.value_ok e.value e.label ≡ true) (entry_named es text)
  unfolding entry_named find_of
  reads_entry text = go (first_from called 0 (length es)) refl
    where
      called : ℕ → Bool
      called k = called_of (entry_at es k) text

      go : (o : Option ℕ) → first_from called 0 (length es) ≡ o → Reads (λ (e : Entry). Good es → entries.value_ok e.value e.label ≡ true) (found_entry es o)
      go None q = refusal
      go (Some k) q = let b = (first_least called 0 (length es) k q).1 in grant (λ good. (valid_parts (entry_at es k) (good.valid k (omega arith))).value)

  reads_named : (text : List ℕ) → Reads (λ (l : Label). Good es → Label.valid_of l ≡ true) (label_named es text)
  unfolding label_named entries.value_ok
  reads_named text = reads_then _ (reads_entry text) (λ e v. by e.value e.label v)
    where
      by : (v : Value) (l : Label) → (Good es → entries.value_ok v l ≡ true) → Reads (λ (m : Label). Good es → Label.valid_of m ≡ true) (label_by v l)
      by (Hierarchy h) l e = grant (λ good. hierarchy_valid (Label.label_of h no_categories) (hierarchy_small h l (e good)))
      by (Category c) l e = refusal
      by WholeLabel l e = grant e

  reads_hierarchy : (text : List ℕ) → Reads (λ h. Good es → h ≤ 199) (hierarchy_named es text)
  unfolding hierarchy_named
  reads_hierarchy text = reads_then _ (reads_entry text) (λ e v. by e.value e.label v)
    where
      by : (v : Value) (l : Label) → (Good es → entries.value_ok v l ≡ true) → Reads (λ h. Good es → h ≤ 199) (hierarchy_by v)
      by (Hierarchy h) l e = grant (λ good. hierarchy_small h l (e good))
      by (Category c) l e = refusal
      by WholeLabel l e = refusal

  reads_category : (text : List ℕ) → Reads (λ c. Unit {0}) (category_named es text)
  unfolding category_named
  reads_category text = reads_then _ (reads_entry text) (λ e v. by e.value)
    where
      by : (v : Value) → Reads (λ c. Unit {0}) (category_by v)
      by (Hierarchy h) = refusal
      by (Category c) = grant tt
      by WholeLabel = refusal

  reads_categories : (ws : List ℕ) (names : List (List ℕ)) → Reads (λ us. Unit {0}) (categories_read es ws names)
  unfolding categories_read
  reads_categories ws [] = grant tt
  reads_categories ws (name ∷ names) =
      reads_then _ (reads_category name) (λ c t. reads_require (not (includes_of ws (single_of c))) (λ e. reads_categories (union_of ws (single_of c)) names))

  reads_composed : (name names : List ℕ) → Reads (λ (l : Label). Good es → Label.valid_of l ≡ true) (composed_of es name names)
  unfolding composed_of
  reads_composed name names =
      reads_then _ (reads_hierarchy name)
      (λ h s. reads_then _ (reads_categories no_categories (split comma names)) (λ ws t. grant (λ good. hierarchy_valid (Label.label_of h ws) (s good))))

  reads_label : (text : List ℕ) → Reads (λ (l : Label). Good es → Label.valid_of l ≡ true) (label_in_text es text)
  unfolding label_in_text
  reads_label text =
      let i = index_of colon text in
      reads_cond (ltb i (length text)) (reads_composed (take i text) (drop (i + 1) text)) (reads_named text)

  module _ (s : Caller) where
    reads_seen : (text : List ℕ) → Reads (λ l. Good es → InSight s l) (label_seen es s text)
    unfolding label_seen
    reads_seen text = reads_then _ (reads_label text) (λ l v. reads_require (sees_of s l) (λ e. grant (λ good. record { valid = v good; seen = e })))

    label_read : (text : List ℕ) → Reads (λ l. Good es → InSight s l) (read_label_text es s text)
    unfolding read_label_text
    label_read text = reads_require (caller_valid s) (λ e. reads_seen text)

    reads_from : (low : Label) → (Good es → InSight s low) → (text : List ℕ) → Reads (λ x. Good es → RangeInSight s x) (range_from es s low text)
    unfolding range_from
    reads_from low l text =
        reads_then _ (reads_seen text)
        (λ high h. reads_require (Label.dominates_of high low)
        (λ o. grant (λ good. record { valid = parts_valid (Range.range_of low high) (record { low = (l good).valid; high = (h good).valid; order = o }); low = (l good).seen; high = (h good).seen })))

    reads_high : (low : Label) → (Good es → InSight s low) → (text : List ℕ) → Reads (λ x. Good es → RangeInSight s x) (high_of es s low text)
    unfolding high_of
    reads_high low l text =
        reads_require (not (same_bytes text hidden_high)) (λ e. reads_require (begins_with high_marker text) (λ e. reads_from low l (drop (length high_marker) text)))

    reads_ends : (text : List ℕ) → Reads (λ x. Good es → RangeInSight s x) (ends_of es s text)
    unfolding ends_of
    reads_ends text =
        let n = index_of blank text in
        reads_then _ (reads_seen (take n text)) (λ low l. reads_high low l (drop n text))

    range_read : (text : List ℕ) → Reads (λ x. Good es → RangeInSight s x) (read_range_text es s text)
    unfolding read_range_text
    range_read text = reads_require (caller_valid s) (λ e. reads_require (begins_with low_marker text) (λ e. reads_ends (drop (length low_marker) text)))

    -- every refusal of a label, or of a range, is the plain 22
    pub label_plain : (text : List ℕ) → Plain (read_label_text es s text)
    label_plain text = reads_plain (label_read text)

    pub range_plain : (text : List ℕ) → Plain (read_range_text es s text)
    range_plain text = reads_plain (range_read text)

  -- what is granted by a good table
  module _ (good : Good es) where
    pub label_sight : (s : Caller) (text : List ℕ) (l : Label) → read_label_text es s text ≡ granted l → InSight s l
    label_sight s text l h = reads_grant l (label_read s text) h good

    pub range_sight : (s : Caller) (text : List ℕ) (x : Range) → read_range_text es s text ≡ granted x → RangeInSight s x
    range_sight s text x h = reads_grant x (range_read s text) h good

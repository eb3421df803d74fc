-- The laws of labels and ranges as text, for every table, subject, form and variant. What is written reads back, under the same table and subject; a
-- range whose high end is not shown is refused by the reader; what is read is valid and in sight; and under a good table every refusal of a text is
-- the plain 22.
use mathlib.Core.Bool.{Bool}
use mathlib.Core.List.{List}
use mathlib.Core.Path.{◌≡◌, refl, ap, ◌∙◌}
use Prim.Native.Nat.{ℕ}
use Rattle.common.specs.Answer.{Answer, and_then, granted, refused}
use Rattle.label.specs.Label
use Rattle.label.specs.declared.Label.{Label}
use Rattle.label.specs.declared.caller.Caller.{Caller}
use Rattle.range.specs.Range
use Rattle.range.specs.declared.Range.{Range}
use Rattle.alias_entry.specs.declared.Entry.{Entry}
use Rattle.octets.specs.Lines.{lines_of}
use Rattle.alias.specs.Lines.{entries_of}
use Rattle.alias.specs.Table.{check_table}
use Rattle.alias.specs.declared.LineStarts.{LineStarts}
use Rattle.alias.proofs.TableLaws.{Good, checked_good}
use Rattle.text.specs.Read.{plain, read_label_text, read_range_text}
use Rattle.text.specs.Subject.{with_table}
use Rattle.text.specs.Write.{Shown, write_label_of, write_range_of}
use Rattle.text.specs.declared.Style.{Style}
use Rattle.text.proofs.EndsLaws.{label_reads, range_reads, range_refused}
use Rattle.text.proofs.SightLaws.{InSight, Plain, RangeInSight, label_plain, label_sight, range_plain, range_sight}

module _ (more : Bool) (table : List ℕ) where
  abbrev es : List Entry
  es = entries_of (lines_of table)

  by_table : {A : Type 0} (f : List Entry → Answer A) (x : LineStarts) → check_table more table ≡ granted x → with_table more table f ≡ f es
  by_table f x e = ap (λ (c : Answer LineStarts). and_then c (λ (x : LineStarts). f es)) e

  -- a grant by a table: the table is good, and what is granted and what else is answered are what its entries say
  tabled : {A : Type 0} {P : Type 0} (f : List Entry → Answer A) (y : A) → with_table more table f ≡ granted y
      → (Good es → ((B : Type 0) (g : List Entry → Answer B) → with_table more table g ≡ g es) → f es ≡ granted y → P) → P
  tabled {A} {P} f y e next = go (check_table more table) refl e
    where
      go : (c : Answer LineStarts) → check_table more table ≡ c → and_then c (λ (x : LineStarts). f es) ≡ granted y → P
      go (granted x) q h = next (checked_good more table x q) (λ B g. by_table g x q) h
      go (refused n detail) q h = cc

  module _ (s : Caller) where
    -- a label that was written reads back as that label
    pub label_text_lem : (style : Style) (l : Label) (text : List ℕ) → Label.Typed l → with_table more table (λ es. write_label_of es s style l) ≡ granted text
        → with_table more table (λ es. read_label_text es s text) ≡ granted l
    label_text_lem style l text t e =
        tabled (λ es. write_label_of es s style l) text e (λ good by h. by Label (λ es. read_label_text es s text) ∙ label_reads es good s style l text t h)

    -- a range that was written with status 0 reads back as that range
    pub range_text_lem : (style : Style) (x : Range) (t : Shown) → Range.TypedRange x → with_table more table (λ es. write_range_of es s style x) ≡ granted t → t.status ≡ 0
        → with_table more table (λ es. read_range_text es s t.text) ≡ granted x
    range_text_lem style x t ty e z =
        tabled (λ es. write_range_of es s style x) t e (λ good by h. by Range (λ es. read_range_text es s t.text) ∙ range_reads es good s style x t ty h z)

    -- a text with status 1 is refused by the reader
    pub range_hidden : (style : Style) (x : Range) (t : Shown) → Range.TypedRange x → with_table more table (λ es. write_range_of es s style x) ≡ granted t → t.status ≡ 1
        → with_table more table (λ es. read_range_text es s t.text) ≡ plain
    range_hidden style x t ty e z =
        tabled (λ es. write_range_of es s style x) t e (λ good by h. by Range (λ es. read_range_text es s t.text) ∙ range_refused es good s style x t ty h z)

    -- a label that is read is valid, and one that the subject may see
    pub label_in_sight : (text : List ℕ) (l : Label) → with_table more table (λ es. read_label_text es s text) ≡ granted l → InSight s l
    label_in_sight text l e = tabled (λ es. read_label_text es s text) l e (λ good by h. label_sight es good s text l h)

    -- so is each end of a range
    pub range_in_sight : (text : List ℕ) (x : Range) → with_table more table (λ es. read_range_text es s text) ≡ granted x → RangeInSight s x
    range_in_sight text x e = tabled (λ es. read_range_text es s text) x e (λ good by h. range_sight es good s text x h)

    -- under a good table every other text gets the plain 22
    pub label_else_plain : (text : List ℕ) (x : LineStarts) → check_table more table ≡ granted x → Plain (with_table more table (λ es. read_label_text es s text))
    label_else_plain text x e = rw (by_table (λ es. read_label_text es s text) x e) (label_plain es s text)

    pub range_else_plain : (text : List ℕ) (x : LineStarts) → check_table more table ≡ granted x → Plain (with_table more table (λ es. read_range_text es s text))
    range_else_plain text x e = rw (by_table (λ es. read_range_text es s text) x e) (range_plain es s text)

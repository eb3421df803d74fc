-- Texts by their parts: a range as it is written, and a label in its form.
use mathlib.Core.Bool.{Bool, true, false, cond, ◌&&◌, and-true}
use mathlib.Core.List.{List, append_assoc}
use mathlib.Core.Path.{◌≡◌}
use Rattle.std.specs.Prelude.{Option, None, Some}
use Prim.Native.Nat.{ℕ}
use native.Mathlib.Omega.{arith}
use Rattle.label.specs.declared.Label.{Label}
use Rattle.range.specs.declared.Range.{Range}
use Rattle.alias_entry.specs.Entry.{name_size}
use Rattle.alias_entry.specs.declared.Entry.{Entry}
use Rattle.alias_entry.specs.declared.Value.TheVariants.{WholeLabel}
use Rattle.alias.specs.Lines.{entry_at}
use Rattle.alias.specs.Lookup.{last_entry_for}
use Rattle.text.specs.Internal.Measure.{MeasuredText, max_label, range_named, range_text, status_of}
use Rattle.text.specs.Write.{all_named, definition_text, low_text, name_for, named, named_in, shown, text_in, whole_text, written_name}
use Rattle.text.specs.declared.Form.{Form}
use Rattle.text.specs.declared.Form.TheVariants.{Alias}
use Rattle.text.specs.declared.Style.{Style}
use Rattle.text.specs.declared.Variant.{Variant}
use Rattle.text.proofs.WriteLaws.{counted}

-- a range as it is written
module _ (es : List Entry) (style : Style) (x : Range) where
  pub range_shown : (whole : Bool)
      → cond whole (shown (all_named es style x.low && all_named es style x.high) 0 (whole_text es style x)) (shown (all_named es style x.low) 1 (low_text es style x))
      ≡ shown (range_named es style x whole) (status_of whole) (range_text es style x whole)
  unfolding whole_text low_text
  range_shown true = rw append_assoc
  range_shown false = rw and-true

-- ---- a label in its form

-- what is put in the alias form: the name of the label where there is one, else the definition form
pub alias_text : (es : List Entry) (v : Variant) (l : Label) {k : ℕ} → last_entry_for es WholeLabel l ≡ Some k → text_in es Alias v l ≡ name_for es v WholeLabel l
unfolding text_in named
alias_text es v l e = rw e

pub definition_instead : (es : List Entry) (v : Variant) (l : Label) → last_entry_for es WholeLabel l ≡ None → text_in es Alias v l ≡ definition_text es v l
unfolding text_in named
definition_instead es v l e = rw e

module _ (es : List Entry) (v : Variant) (l : Label) {form : Form} (a : form ≡ Alias) where
  -- a name that was measured is the text
  pub alias_measured : {r : Option ℕ} {n : ℕ} → MeasuredText (named es WholeLabel l) (name_for es v WholeLabel l) name_size r → r ≡ Some n
      → MeasuredText (named_in es form l) (text_in es form v l) max_label r
  unfolding named_in text_in
  alias_measured t e =
      let w = counted t e in
      rw (a, w.named) (record { measure = rw w.named at t.measure; at_most_lem = λ m f. let k = t.at_most_lem m f in omega arith })

  -- what the look-up of the label's name found is what is put, and where it found none the definition form is
  module _ {r : Option ℕ} (f : r ≡ last_entry_for es WholeLabel l) where
    pub alias_found : {k : ℕ} → r ≡ Some k → text_in es form v l ≡ written_name v (entry_at es k)
    unfolding text_in named name_for
    alias_found e = rw (a, ← f, e)

    pub definition_put : r ≡ None → text_in es form v l ≡ definition_text es v l
    unfolding text_in named
    definition_put e = rw (a, ← f, e)

-- Alias entries as C has them: what an entry names is a number of its own.
use Rattle.std.specs.Prelude.{Bool, ◌&&◌, ◌||◌, ℕ, eqb, replicate}
use Rattle.label.specs.Label
use Rattle.alias_entry.specs.Entry.{abbreviation_size, abbreviation_text, name_size, name_text, value_by_class, value_class}
use Rattle.alias_entry.specs.declared.Entry as core_entry
use Rattle.alias_entry.specs.declared.Value.{Value}
use Rattle.alias_entry.specs.declared.Value.TheVariants.{Hierarchy, Category, WholeLabel}
use Rattle.abi.specs.declared.entry.CEntry.{CEntry}

-- 1 a hierarchy; 2 a category; 3 a label, which has no number
unfoldable pub formed_of : CEntry → Bool
formed_of e = eqb e.names 1 || eqb e.names 2 || (eqb e.names 3 && eqb e.number 0)

abbrev pub decoded_of : CEntry → core_entry.Entry
decoded_of e = record { value = value_by_class e.names e.number; label = e.label; name = e.name; abbreviation = e.abbreviation }

abbrev pub value_number : Value → ℕ
value_number (Hierarchy h) = h
value_number (Category c) = c
value_number WholeLabel = 0

abbrev pub encoded_of : core_entry.Entry → CEntry
encoded_of e = record { names = value_class e.value; number = value_number e.value; label = e.label; name = e.name; abbreviation = e.abbreviation }

-- the entry of zeros, which names nothing: what stands beside a refusal
abbrev pub zero_c_entry : CEntry
zero_c_entry = record {
  names = 0;
  number = 0;
  label = Label.zero_label;
  name = name_text (replicate name_size 0) 0;
  abbreviation = abbreviation_text (replicate abbreviation_size 0) 0;
}

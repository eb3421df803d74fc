-- The bytes of any alias entry, valid or not: those of kind 04 behind the kind, where they fit. An entry with a number above 255, or with a text
-- that is longer than the array that holds it, has no bytes.
use Rattle.std.specs.Prelude.{Bool, ◌&&◌, cond, List, [], ℕ, ◌+◌, leb}
use Rattle.label.specs.declared.Label.{Label}
use Rattle.label_codec.specs.Codec.{label_fits}
use Rattle.alias_entry.specs.Entry.{abbreviation_size, entry_bytes, entry_from, layout_of, name_size}
use Rattle.alias_entry.specs.declared.Entry.{Entry}
use Rattle.alias_entry.specs.declared.Value.{Value}
use Rattle.alias_entry.specs.declared.Value.TheVariants.{Hierarchy, Category, WholeLabel}

-- each number of an entry has a byte
abbrev pub value_fits : Value → Label → Bool
value_fits (Hierarchy h) l = leb h 255
value_fits (Category c) l = leb c 255
value_fits WholeLabel l = label_fits l

-- and the texts of an entry are no longer than their arrays
abbrev pub entry_fits : Entry → Bool
entry_fits e = value_fits e.value e.label && leb e.name.length name_size && leb e.abbreviation.length abbreviation_size

-- their bytes, with w words of a set
unfoldable pub entry_code : ℕ → Entry → List ℕ
entry_code w e = cond (entry_fits e) (entry_bytes w e) []

-- the entry whose class is at index i
abbrev pub entry_in_bytes : ℕ → List ℕ → ℕ → Entry
entry_in_bytes w bs i = entry_from w bs (i + 1) (layout_of w bs i)

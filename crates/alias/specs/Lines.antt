-- Document 01, "Names and text": the lines of an alias table, and the entries in them.
use Rattle.std.specs.Prelude.{cond, List, map, ℕ, ◌+◌, ◌-◌, leb, drop, get_or, length, take}
use Rattle.common.specs.Index.{tabulate}
use Rattle.octets.specs.Lines.{bytes_before}
use Rattle.alias_entry.specs.Entry.{zero_entry}
use Rattle.hexline.specs.Line.{standing_in}
use Rattle.alias_entry.specs.declared.Entry.{Entry}
use Rattle.alias.specs.declared.LineStarts.{LineStarts}
use Rattle.alias.specs.declared.lookup.Table.{Table}

-- a table has 0 to 512 lines
abbrev pub max_lines : ℕ
max_lines = 512

-- the entries of lines
unfoldable pub entries_of : List (List ℕ) → List Entry
entries_of ls = map standing_in ls

abbrev pub entry_at : List Entry → ℕ → Entry
entry_at es k = get_or es k zero_entry

-- ---- where lines begin

-- where line k begins, and for the number past the last line where that ends; zeros past these
unfoldable pub line_start : List (List ℕ) → ℕ → ℕ
line_start ls k = cond (leb k (length ls)) (bytes_before ls k) 0

abbrev pub indexed_of : List (List ℕ) → LineStarts
indexed_of ls = record { count = length ls; starts = tabulate (line_start ls) (max_lines + 1) }

-- ---- the lines of a table by their starts, of which there is one more than lines

-- the bytes from the one start up to the next
unfoldable pub part_at : List ℕ → List ℕ → ℕ → List ℕ
part_at bytes starts k = take (get_or starts (k + 1) 0 - get_or starts k 0) (drop (get_or starts k 0) bytes)

-- of a table that was tested, with the starts that the test gives, these are its lines (the law `checked_lines`)
unfoldable pub lines_by : List ℕ → List ℕ → List (List ℕ)
lines_by bytes starts = tabulate (part_at bytes starts) (length starts - 1)

abbrev pub entries_by : List ℕ → List ℕ → List Entry
entries_by bytes starts = entries_of (lines_by bytes starts)

-- the entries of a table that is handed over with its starts
abbrev pub table_entries : Table → List Entry
table_entries t = entries_by t.bytes.now t.starts.now

-- A table's lines up to the first that is bad by itself: for functions that are not public.
use Rattle.std.specs.Prelude.{Bool, true, false, not, ◌||◌, List, ◌≡◌, ℕ, ◌+◌, ◌<◌, leb, length, set, take, Option}
use Rattle.common.specs.Answer.{is_granted}
use Rattle.common.specs.Index.{first_from, tabulate}
use Rattle.hexline.specs.Line.{read_entry_line}
use Rattle.alias_entry.specs.declared.Entry.{Entry}
use Rattle.octets.specs.Lines.{line_at, lines_of}
use Rattle.alias.specs.Lines.{indexed_of, max_lines}
use Rattle.alias.specs.Table.{judged_lines, repeats_at}
use Rattle.alias.specs.declared.LineStarts.{LineStarts}

-- whether a line is bad by itself as line k: one line too many, or no accepted line of kind 04
unfoldable pub faulty_of : ℕ → List ℕ → Bool
faulty_of k line = leb max_lines k || not (is_granted (read_entry_line line))

abbrev pub faulty_at : List (List ℕ) → ℕ → Bool
faulty_at ls k = faulty_of k (line_at ls k)

-- the starts before the first line
abbrev pub no_lines : LineStarts
no_lines = record { count = 0; starts = tabulate (λ k. 0) (max_lines + 1) }

-- with one line more, which ends at an index
abbrev pub more_lines : LineStarts → ℕ → LineStarts
more_lines l end = record { count = l.count + 1; starts = set l.starts (l.count + 1) end }

-- these are the lines before the first that is bad by itself, and whether there is one
pub record Walks (more : Bool) (bytes : List ℕ) (lines : LineStarts) (stopped : Bool) : Type 0 where
  pub lines_are : lines ≡ indexed_of (take lines.count (lines_of bytes))
  pub good : (k : ℕ) → k < lines.count → faulty_at (judged_lines more bytes) k ≡ false
  pub first : stopped ≡ true → (lines.count < length (judged_lines more bytes)) × (faulty_at (judged_lines more bytes) lines.count ≡ true)
  pub all : stopped ≡ false → lines.count ≡ length (judged_lines more bytes)

-- the first entry that repeats a name
unfoldable pub first_repeat : List Entry → Option ℕ
first_repeat es = first_from (repeats_at es) 0 (length es)

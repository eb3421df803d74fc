-- Document 01, "Names and text": which tables are good.
use Rattle.std.specs.Prelude.{Bool, cond, not, ◌&&◌, ◌||◌, List, [], ◌∷◌, ◌++◌, ℕ, leb, length, Option, None, Some}
use Rattle.common.specs.Answer.{Answer, granted, is_granted, refused}
use Rattle.common.specs.Index.{some_below, first_from}
use Rattle.octets.specs.Bytes.{same_bytes}
use Rattle.alias_entry.specs.Entry.{abbreviation_bytes, name_bytes}
use Rattle.hexline.specs.Line.{read_entry_line}
use Rattle.alias_entry.specs.declared.Entry.{Entry}
use Rattle.octets.specs.Lines.{line_at, lines_of}
use Rattle.alias.specs.Lines.{entries_of, entry_at, indexed_of, max_lines}
use Rattle.alias.specs.Lookup.{called_of}
use Rattle.alias.specs.declared.LineStarts.{LineStarts}

-- whether a name or non-empty abbreviation of e is one of f's too
unfoldable pub shares_of : Entry → Entry → Bool
shares_of e f = called_of e (name_bytes f) || (leb 1 (length (abbreviation_bytes f)) && called_of e (abbreviation_bytes f))

-- whether entry k repeats a name: within itself, or of an earlier entry. Case counts
unfoldable pub repeats_at : List Entry → ℕ → Bool
repeats_at es k = same_bytes (name_bytes (entry_at es k)) (abbreviation_bytes (entry_at es k)) || some_below (λ j. shares_of (entry_at es j) (entry_at es k)) k

-- whether line k is bad: the 513th or a later one, a faulty line or one of another kind, or a repeat
unfoldable pub bad_at : List (List ℕ) → ℕ → Bool
bad_at ls k = leb max_lines k || not (is_granted (read_entry_line (line_at ls k))) || repeats_at (entries_of ls) k

-- the lines to be judged. Where the table is cut off and more follows, one line more follows those that end, which does not end
unfoldable pub judged_lines : Bool → List ℕ → List (List ℕ)
judged_lines more bytes = lines_of bytes ++ cond more ([] ∷ []) []

abbrev pub verdict_of : Option ℕ → LineStarts → Answer LineStarts
verdict_of None lines = granted lines
verdict_of (Some k) lines = refused 22 (Some k)

-- what the test of a table answers: where its lines begin, or 22 with the number of its first bad line
unfoldable pub check_table : Bool → List ℕ → Answer LineStarts
check_table more bytes = verdict_of (first_from (bad_at (judged_lines more bytes)) 0 (length (judged_lines more bytes))) (indexed_of (lines_of bytes))

-- Tests of the names of an entry where they stand in its line: for functions that are not public.
use Rattle.std.specs.Prelude.{Bool, ◌&&◌, ◌||◌, List, ℕ, ◌+◌, eqb, leb, length}
use Rattle.common.specs.Index.{every}
use Rattle.label_codec.specs.Body.{byte_at}
use Rattle.alias_entry.specs.Entry.{abbreviation_bytes, name_bytes}
use Rattle.alias_entry.specs.declared.Entry.{Entry}
use Rattle.alias_entry.specs.declared.bytes.Span.{Span}

-- whether the bytes at a span are n others, by their index
unfoldable pub span_is : List ℕ → Span → (ℕ → ℕ) → ℕ → Bool
span_is bs s f n = eqb s.length n && every (λ i. eqb (byte_at bs (s.at + i)) (f i)) n

-- whether a test holds of a name of an entry: of its name, or of its abbreviation where that is not empty
abbrev pub name_is : (List ℕ → Bool) → Entry → Bool
name_is p e = p (name_bytes e) || (leb 1 (length (abbreviation_bytes e)) && p (abbreviation_bytes e))

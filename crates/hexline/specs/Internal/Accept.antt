-- What the body of an alias entry is judged by, as the code asks it.
use Rattle.std.specs.Prelude.{Bool, ◌||◌, List, ℕ, eqb, leb, drop, take}
use Rattle.alias_entry.specs.declared.bytes.Span.{Span}

-- b may be the first byte of a value of a class from 1 to 3: any category, or the hierarchy of a valid label
abbrev pub value_byte_ok : ℕ → ℕ → Bool
value_byte_ok class b = eqb class 2 || leb b 199

-- the bytes of a body at a span
abbrev pub span_part : List ℕ → Span → List ℕ
span_part bs s = take s.length (drop s.at bs)

-- How long an entry can be, and the bytes at a span.
use Rattle.std.specs.Prelude.{List, ℕ, ◌+◌}
use Rattle.common.specs.Index.{tabulate}
use Rattle.label_codec.specs.Body.{byte_at, label_size}
use Rattle.alias_entry.specs.Entry.{max_abbreviation, max_name}
use Rattle.alias_entry.specs.declared.bytes.Span.{Span}

-- the most bytes of an entry: class, label, and two lengths with their texts
abbrev pub entry_size : ℕ → ℕ
entry_size w = 1 + label_size w + (1 + max_name) + (1 + max_abbreviation)

-- the bytes of a body at a span, and zeros past its end
unfoldable pub span_bytes : List ℕ → Span → List ℕ
span_bytes bs s = tabulate (λ k. byte_at bs (s.at + k)) s.length

-- The state as text, a line at a time.
use Rattle.std.specs.Prelude.{List, [], ◌∷◌, ◌++◌, ℕ}
use Rattle.octets.specs.Bytes.{ascii}
use Rattle.console.specs.Format.{field}
use Rattle.label.specs.Words.{members_of}
use Rattle.label.specs.declared.Label.{Label}
use Rattle.segment_table.specs.declared.Segment.{Segment}

-- a blank and a number for each
unfoldable pub list_text : List ℕ → List ℕ
list_text [] = []
list_text (c ∷ cs) = field (ascii " ") c ++ list_text cs

-- `-` where there are none
unfoldable pub category_numbers_text : List ℕ → List ℕ
category_numbers_text [] = ascii " -"
category_numbers_text (c ∷ cs) = list_text (c ∷ cs)

unfoldable pub pool_text : ℕ → List ℕ
pool_text pool = field (ascii "pool ") pool ++ ascii "\n"

unfoldable pub tenant_text : ℕ → ℕ → ℕ → List ℕ
tenant_text t ceiling pages = field (ascii "tenant ") t ++ field (ascii " ceiling ") ceiling ++ field (ascii " pages ") pages ++ ascii "\n"

-- the line of a filled slot: the segment's numbers, and its label
unfoldable pub segment_text : ℕ → Segment → List ℕ
segment_text p x = field (ascii "place ") p ++ field (ascii " pages ") x.pages ++ field (ascii " edition ") x.version

unfoldable pub label_numbers_text : Label → List ℕ
label_numbers_text l = field (ascii " hierarchy ") l.hierarchy ++ ascii " categories" ++ category_numbers_text (members_of l.categories)

unfoldable pub slot_text : ℕ → Segment → List ℕ
slot_text p x = segment_text p x ++ label_numbers_text x.label ++ ascii "\n"

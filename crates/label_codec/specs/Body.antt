-- Document 01, "Hex lines": labels and ranges as the bytes of a body, over the number of words that a label's set has there.
use Rattle.std.specs.Prelude.{cond, List, ◌∷◌, ◌++◌, ℕ, zero, suc, ◌+◌, ◌*◌, ltb, get_or}
use Rattle.common.specs.Index.{tabulate}
use Rattle.label.specs.Label
use Rattle.label.specs.Words.{has, words}
use Rattle.label.specs.declared.Label.{Label}
use Rattle.range.specs.Range
use Rattle.range.specs.declared.Range.{Range}

-- how many words of a set stand in a line of kinds 01 to 04: 256 categories
abbrev pub line_words : ℕ
line_words = 4

abbrev pub byte_at : List ℕ → ℕ → ℕ
byte_at bs i = get_or bs i 0

-- the number whose n digits in base b are f i, f (i + 1), .., the lowest first
unfoldable pub base_number : ℕ → (ℕ → ℕ) → ℕ → ℕ → ℕ
base_number b f i zero = 0
base_number b f i (suc n) = f i + b * base_number b f (suc i) n

-- ---- writing

-- 1 where category c is in the set, else 0
abbrev pub category_bit : List ℕ → ℕ → ℕ
category_bit ws c = cond (has ws c) 1 0

-- byte i of a set: category c is bit c mod 8 of byte c / 8
unfoldable pub category_byte : List ℕ → ℕ → ℕ
category_byte ws i = base_number 2 (λ k. category_bit ws (8 * i + k)) 0 8

-- the hierarchy, then the categories, in the bytes of w words
unfoldable pub label_bytes : ℕ → Label → List ℕ
label_bytes w l = l.hierarchy ∷ tabulate (category_byte l.categories) (8 * w)

-- how many bytes that is
abbrev pub label_size : ℕ → ℕ
label_size w = 1 + 8 * w

-- low, high
unfoldable pub range_bytes : ℕ → Range → List ℕ
range_bytes w x = label_bytes w x.low ++ label_bytes w x.high

abbrev pub range_size : ℕ → ℕ
range_size w = label_size w + label_size w

-- ---- reading

-- word j of a set of w words whose bytes begin at index i
unfoldable pub word_from : ℕ → List ℕ → ℕ → ℕ → ℕ
word_from w bs i j = cond (ltb j w) (base_number 256 (byte_at bs) (i + 8 * j) 8) 0

unfoldable pub label_at : ℕ → List ℕ → ℕ → Label
label_at w bs i = Label.label_of (byte_at bs i) (tabulate (word_from w bs (i + 1)) words)

unfoldable pub range_at : ℕ → List ℕ → ℕ → Range
range_at w bs i = Range.range_of (label_at w bs i) (label_at w bs (i + label_size w))

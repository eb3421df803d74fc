-- How many bytes lines take, for functions that know that they fit.
use Rattle.std.specs.Prelude.{ℕ, ◌+◌, ◌*◌}
use Rattle.label.specs.Words.{words}

-- room for the numbers that a look shows, and for a hex line
abbrev pub numbers_bytes : ℕ
numbers_bytes = 112

abbrev pub hexline_bytes : ℕ
hexline_bytes = 400

-- the size of the buffer for an answer
abbrev pub answer_bytes : ℕ
answer_bytes = 512

-- the most bytes that a label's categories take: a blank and a number each
abbrev pub categories_bytes : ℕ
categories_bytes = 21 * (64 * words)

-- the most bytes of a slot's line: its numbers, and its label
abbrev pub segment_bytes : ℕ
segment_bytes = 82

abbrev pub label_text_size : ℕ
label_text_size = 42 + categories_bytes

-- the size of the buffer for a line
abbrev pub line_bytes : ℕ
line_bytes = 128 + categories_bytes

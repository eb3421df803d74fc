-- Labels as document 01's examples write them.
use Rattle.std.specs.Prelude.{List, [], ◌∷◌, ℕ, ◌+◌, ◌-◌, ◌^◌, replicate}
use Rattle.label.specs.Label.{label_of}
use Rattle.label.specs.Words.{words}
use Rattle.label.specs.declared.Label.{Label}

-- the word of a set of categories below 64, each given once
abbrev pub example_word : List ℕ → ℕ
example_word [] = 0
example_word (c ∷ cs) = 2 ^ c + example_word cs

-- (h,{cs})
abbrev pub example_of : ℕ → List ℕ → Label
example_of h cs = label_of h (example_word cs ∷ replicate (words - 1) 0)

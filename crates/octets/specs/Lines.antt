-- Lines of bytes: every crate that cuts bytes into lines goes by these.
use Rattle.std.specs.Prelude.{Bool, cond, List, [], ◌∷◌, ℕ, zero, suc, ◌+◌, eqb, ltb, get_or, length, take}
use Rattle.octets.specs.Bytes.{index_of, lf}

-- b at the start of the first line
abbrev pub start_first : ℕ → List (List ℕ) → List (List ℕ)
start_first b [] = (b ∷ []) ∷ []
start_first b (l ∷ ls) = (b ∷ l) ∷ ls

-- bytes cut after each LF: each line has its LF, and what stands after the last LF is a line too, which does not end
unfoldable pub lines_of : List ℕ → List (List ℕ)
lines_of [] = []
lines_of (b ∷ bs) = cond (eqb b lf) ((b ∷ []) ∷ lines_of bs) (start_first b (lines_of bs))

abbrev pub line_at : List (List ℕ) → ℕ → List ℕ
line_at ls k = get_or ls k []

-- how many bytes the first k lines have
unfoldable pub bytes_before : List (List ℕ) → ℕ → ℕ
bytes_before ls zero = 0
bytes_before [] (suc k) = 0
bytes_before (l ∷ ls) (suc k) = length l + bytes_before ls k

-- ---- the first line (the law `lines_first`), by where the first LF stands

-- whether the first line ends
abbrev pub first_ends : List ℕ → Bool
first_ends bytes = ltb (index_of lf bytes) (length bytes)

-- the first line: what stands up to the first LF and with it, or all bytes where there is no LF
abbrev pub first_line : List ℕ → List ℕ
first_line bytes = take (index_of lf bytes + 1) bytes

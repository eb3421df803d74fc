-- Document 01, "Hex lines": a tuple as the bytes of a body. A byte of presence has bit r where the range of region r is there; then come
-- the ranges that are there, in the order of the regions.
use Rattle.std.specs.Prelude.{cond, List, [], ◌∷◌, ◌++◌, ℕ, zero, suc, ◌+◌, ◌*◌}
use Rattle.common.specs.Index.{tabulate}
use Rattle.label.specs.Region.{regions}
use Rattle.label.specs.Words.{bit}
use Rattle.range.specs.Tuple
use Rattle.range.specs.declared.tuple.RegionRange.{RegionRange}
use Rattle.range.specs.declared.tuple.Tuple.{Tuple}
use Rattle.label_codec.specs.Body.{base_number, range_at, range_bytes, range_size}

-- ---- writing

-- 1 where the range of region r is there, else 0
abbrev pub present_at : Tuple → ℕ → ℕ
present_at t r = cond (Tuple.is_there (Tuple.region_range_at t r)) 1 0

unfoldable pub presence_of : Tuple → ℕ
presence_of t = base_number 2 (present_at t) 0 regions

unfoldable pub region_bytes : ℕ → RegionRange → List ℕ
region_bytes w e = cond (Tuple.is_there e) (range_bytes w e.range) []

-- the ranges of the first n regions
unfoldable pub regions_bytes : ℕ → Tuple → ℕ → List ℕ
regions_bytes w t zero = []
regions_bytes w t (suc n) = regions_bytes w t n ++ region_bytes w (Tuple.region_range_at t n)

-- the byte of presence, then the ranges that are there
abbrev pub tuple_bytes : ℕ → Tuple → List ℕ
tuple_bytes w t = presence_of t ∷ regions_bytes w t regions

-- ---- reading: p is the byte of presence, and the ranges begin at index i

-- how many of the first n regions are there
unfoldable pub present_below : ℕ → ℕ → ℕ
present_below p zero = 0
present_below p (suc n) = present_below p n + cond (bit p n) 1 0

-- how many bytes the tuple has
abbrev pub tuple_size : ℕ → ℕ → ℕ
tuple_size w p = 1 + present_below p regions * range_size w

unfoldable pub region_at : ℕ → List ℕ → ℕ → ℕ → ℕ → RegionRange
region_at w bs p i r = cond (bit p r) (Tuple.present (range_at w bs (i + present_below p r * range_size w))) Tuple.absent

unfoldable pub tuple_at : ℕ → List ℕ → ℕ → ℕ → Tuple
tuple_at w bs p i = Tuple.tuple_of (tabulate (region_at w bs p i) regions)

-- Document 01, "Labels and regions": the regions, by their number in its order.
use Rattle.std.specs.Prelude.{cond, List, [], ◌∷◌, ℕ, leb, get_or}
use Rattle.label.specs.declared.region.Region.{Region}
use Rattle.label.specs.declared.region.Region.TheVariants.{VirusPrevention, User, Administrative}

-- virus prevention, user, administrative
abbrev pub regions : ℕ
regions = 3

-- the number of the code's region
abbrev pub region_number : Region → ℕ
region_number VirusPrevention = 0
region_number User = 1
region_number Administrative = 2

-- a region's least hierarchy
abbrev pub firsts : List ℕ
firsts = 0 ∷ 20 ∷ 180 ∷ []

abbrev pub first_hierarchy : ℕ → ℕ
first_hierarchy r = get_or firsts r 0

-- a region's greatest hierarchy
abbrev pub lasts : List ℕ
lasts = 19 ∷ 179 ∷ 199 ∷ []

abbrev pub last_hierarchy : ℕ → ℕ
last_hierarchy r = get_or lasts r 0

-- the region of a valid hierarchy
unfoldable pub region_of : ℕ → ℕ
region_of h = cond (leb h (last_hierarchy 0)) 0 (cond (leb h (last_hierarchy 1)) 1 2)

-- Document 01, "Ranges and tuples": tuples, by the region's number.
use Rattle.std.specs.Prelude.{Bool, cond, not, ◌&&◌, ◌||◌, List, [], ◌≡◌, ℕ, ◌<◌, max, min, eqb, leb, get_or, length, replicate}
use Rattle.common.specs.Index.{every, tabulate}
use Rattle.label.specs.Label
use Rattle.label.specs.Region.{first_hierarchy, last_hierarchy, region_of, regions}
use Rattle.label.specs.declared.Label.{Label}
use Rattle.range.specs.Range
use Rattle.range.specs.declared.Range.{Range}
use Rattle.range.specs.declared.tuple.RegionRange.{RegionRange}
use Rattle.range.specs.declared.tuple.Tuple.{Tuple}

abbrev pub tuple_of : List RegionRange → Tuple
tuple_of ranges = record { ranges = ranges }

abbrev pub region_range_of : ℕ → Range → RegionRange
region_range_of flag x = record { present = flag; range = x }

abbrev pub present : Range → RegionRange
present x = region_range_of 1 x

-- no range: zeros are held there
abbrev pub absent : RegionRange
absent = region_range_of 0 Range.zero_range

abbrev pub empty_tuple : Tuple
empty_tuple = tuple_of (replicate regions absent)

-- what stands past the end of an array of these: no region has it
abbrev no_region : RegionRange
no_region = record { present = 0; range = Range.range_of (Label.label_of 0 []) (Label.label_of 0 []) }

-- the range of region r
abbrev pub region_range_at : Tuple → ℕ → RegionRange
region_range_at t r = get_or t.ranges r no_region

-- whether there is a range: its flag is 1. In a valid tuple it is 0 otherwise
abbrev pub is_there : RegionRange → Bool
is_there e = eqb e.present 1

-- one valid range with both ends in region r, or no range and zeros, the flag too
unfoldable pub valid_at : ℕ → RegionRange → Bool
valid_at r e =
    cond (is_there e)
    (Range.valid_of e.range && eqb (region_of e.range.low.hierarchy) r && eqb (region_of e.range.high.hierarchy) r)
    (eqb e.present 0 && Label.equal_of e.range.low Label.zero_label && Label.equal_of e.range.high Label.zero_label)

unfoldable pub valid_of : Tuple → Bool
valid_of t = every (λ r. valid_at r (region_range_at t r)) regions

unfoldable pub contains_at : RegionRange → Label → Bool
contains_at e l = is_there e && Range.contains_of e.range l

-- the range of l's region is there and contains l
unfoldable pub contains_of : Tuple → Label → Bool
contains_of t l = contains_at (region_range_at t (region_of l.hierarchy)) l

-- whether there is no range
unfoldable pub empty_of : Tuple → Bool
empty_of t = every (λ r. not (is_there (region_range_at t r))) regions

-- the meet of two ranges where both are there and some label is in both
unfoldable pub meet_at : RegionRange → RegionRange → RegionRange
meet_at e f =
    cond (is_there e && is_there f && Range.common_of e.range f.range) (present (Range.meet_of e.range f.range)) absent

-- the meet goes region by region
unfoldable pub meet_of : Tuple → Tuple → Tuple
meet_of t u = tuple_of (tabulate (λ r. meet_at (region_range_at t r) (region_range_at u r)) regions)

unfoldable pub within_at : RegionRange → RegionRange → Bool
within_at e f =
    not (is_there e)
    || (is_there f && Label.dominates_of f.range.high e.range.high && Label.dominates_of e.range.low f.range.low)

-- each label of t is in u (that it says so is the law `within_exact`)
unfoldable pub within_of : Tuple → Tuple → Bool
within_of t u = every (λ r. within_at (region_range_at t r) (region_range_at u r)) regions

-- whether x has hierarchies in region r
abbrev pub reaches : Range → ℕ → Bool
reaches x r = leb (first_hierarchy r) x.high.hierarchy && leb x.low.hierarchy (last_hierarchy r)

-- the part of x in region r: its hierarchies cut at the region's borders, both ends' categories kept
abbrev pub region_part : Range → ℕ → Range
region_part x r =
    Range.range_of (Label.label_of (max x.low.hierarchy (first_hierarchy r)) x.low.categories)
    (Label.label_of (min x.high.hierarchy (last_hierarchy r)) x.high.categories)

unfoldable pub cut_of : Range → ℕ → RegionRange
cut_of x r = cond (reaches x r) (present (region_part x r)) absent

-- the tuple of a range
unfoldable pub split_of : Range → Tuple
split_of x = tuple_of (tabulate (cut_of x) regions)

-- what every value of the code's type Tuple has (`range::tuple::typed` proves it)
pub record TypedTuple (t : Tuple) : Type 0 where
  pub length_is : length t.ranges ≡ regions
  pub range : (r : ℕ) → r < regions → Range.TypedRange (region_range_at t r).range

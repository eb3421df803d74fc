-- Document 01, "Ranges and tuples": ranges.
use Rattle.std.specs.Prelude.{Bool, ◌&&◌}
use Rattle.common.specs.Answer.{Answer, granted, require}
use Rattle.label.specs.Label
use Rattle.label.specs.declared.Label.{Label}
use Rattle.range.specs.declared.Range.{Range}

abbrev pub range_of : Label → Label → Range
range_of low high = record { low = low; high = high }

-- what is held where there is no range
abbrev pub zero_range : Range
zero_range = range_of Label.zero_label Label.zero_label

-- both ends are valid and high dominates low
unfoldable pub valid_of : Range → Bool
valid_of x = Label.valid_of x.low && Label.valid_of x.high && Label.dominates_of x.high x.low

-- high dominates l and l dominates low
unfoldable pub contains_of : Range → Label → Bool
contains_of x l = Label.dominates_of x.high l && Label.dominates_of l x.low

-- the upper bound of the lows, the lower bound of the highs
unfoldable pub meet_of : Range → Range → Range
meet_of x y = range_of (Label.upper_bound_of x.low y.low) (Label.lower_bound_of x.high y.high)

-- whether some label is in both (that it says so is the law `meet_refused`)
unfoldable pub common_of : Range → Range → Bool
common_of x y = Label.dominates_of (meet_of x y).high (meet_of x y).low

-- what the meet answers: refused with 33 if no label is in both
abbrev pub meet_answer_of : Range → Range → Answer Range
meet_answer_of x y = require (valid_of x && valid_of y) 22 (require (common_of x y) 33 (granted (meet_of x y)))

-- what every value of the code's type Range has (`range::typed` proves it)
pub record TypedRange (x : Range) : Type 0 where
  pub low : Label.Typed x.low
  pub high : Label.Typed x.high

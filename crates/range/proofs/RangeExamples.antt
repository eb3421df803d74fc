-- Which ranges and tuples are valid, on examples, by computation.
use mathlib.Core.Bool.{true, false}
use mathlib.Core.List.{[], ◌∷◌}
use mathlib.Core.Path.{◌≡◌, refl}
use Rattle.common.specs.Index.{every}
use Rattle.label.specs.Label.{dominates_of, equal_of}
use Rattle.label.specs.Label as labels
use Rattle.label.specs.Region.{region_of}
use Rattle.label.specs.Words.{includes_of, same_of}
use Rattle.label.specs.Example.{example_of}
use Rattle.range.specs.Range.{range_of, valid_of, zero_range}
use Rattle.range.specs.Tuple.{absent, empty_of, empty_tuple, present, tuple_of, valid_at}
use Rattle.range.specs.Tuple as tuples
use Rattle.range.specs.declared.Range.{Range}
use Rattle.range.specs.declared.tuple.Tuple.{Tuple}

-- an empty tuple is valid
empty_valid : tuples.valid_of empty_tuple ≡ true
unfolding tuples.valid_of valid_at equal_of same_of includes_of every
empty_valid = refl

empty_empty : empty_of empty_tuple ≡ true
unfolding empty_of every
empty_empty = refl

-- where no range is there zeros are held, else the tuple is invalid
abbrev held_tuple : Tuple
held_tuple = tuple_of (record { present = 0; range = range_of (example_of 0 (5 ∷ [])) (example_of 0 []) } ∷ absent ∷ absent ∷ [])

held_invalid : tuples.valid_of held_tuple ≡ false
unfolding tuples.valid_of valid_at equal_of same_of includes_of every
held_invalid = refl

-- a presence that is neither 0 nor 1 makes a tuple invalid, whether zeros are held there or a range
abbrev odd_tuple : Range → Tuple
odd_tuple x = tuple_of (record { present = 2; range = x } ∷ absent ∷ absent ∷ [])

odd_invalid : (tuples.valid_of (odd_tuple zero_range) ≡ false) × (tuples.valid_of (odd_tuple (range_of (example_of 5 []) (example_of 9 []))) ≡ false)
unfolding tuples.valid_of valid_at equal_of same_of includes_of every
odd_invalid = (refl, refl)

-- both ends in that region: a user range may not stand for virus prevention
abbrev misplaced_tuple : Tuple
misplaced_tuple = tuple_of (present (range_of (example_of 20 []) (example_of 30 [])) ∷ absent ∷ absent ∷ [])

misplaced_invalid : tuples.valid_of misplaced_tuple ≡ false
unfolding tuples.valid_of valid_at valid_of labels.valid_of dominates_of includes_of equal_of same_of every region_of
misplaced_invalid = refl

-- a range whose high does not dominate its low is invalid
reversed_invalid : valid_of (range_of (example_of 40 []) (example_of 20 [])) ≡ false
unfolding valid_of labels.valid_of dominates_of includes_of every
reversed_invalid = refl

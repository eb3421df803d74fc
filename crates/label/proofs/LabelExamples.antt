-- Labels and regions on examples beside those of the crate `examples`, by computation.
use mathlib.Core.Bool.{true, false}
use mathlib.Core.List.{[], ◌∷◌}
use Rattle.std.specs.Prelude.{None, Some}
use mathlib.Core.Path.{◌≡◌, refl}
use Prim.Native.Nat.{◌+◌, ◌^◌}
use Rattle.label.specs.Example.{example_of}
use Rattle.common.specs.Index.{every, first_from, tabulate}
use Rattle.label.specs.Label.{equal_of, valid_of, with_category_of}
use Rattle.label.specs.Region.{region_of}
use Rattle.label.specs.Words.{bit, combine, has, includes_of, members_below, members_of, next_category_from, same_of, single_of, union_of}

-- (20,{2}) and (30,{}) are not equal
incomparable_equal : equal_of (example_of 20 (2 ∷ [])) (example_of 30 []) ≡ false
unfolding equal_of same_of includes_of every
incomparable_equal = refl

-- hierarchy 199 is valid
last_valid : valid_of (example_of 199 []) ≡ true
unfolding valid_of
last_valid = refl

-- a number that would be hierarchy 20 as a byte is no hierarchy
cut_invalid : valid_of (example_of 276 []) ≡ false
unfolding valid_of
cut_invalid = refl

-- (20,{1}) with category 2
with_another : with_category_of (example_of 20 (1 ∷ [])) 2 ≡ example_of 20 (1 ∷ 2 ∷ [])
unfolding with_category_of union_of combine single_of tabulate
with_another = refl

-- categories are listed in rising order; category c is bit c mod 64 of word c / 64
listed : members_of ((2 ^ 7) ∷ (2 ^ 63 + 1) ∷ 0 ∷ (2 ^ 63) ∷ []) ≡ 7 ∷ 64 ∷ 127 ∷ 255 ∷ []
unfolding members_of members_below has bit
listed = refl

next_here : next_category_from ((2 ^ 7) ∷ 0 ∷ 0 ∷ (2 ^ 63) ∷ []) 7 ≡ Some 7
unfolding next_category_from first_from has bit
next_here = refl

next_last : next_category_from ((2 ^ 7) ∷ 0 ∷ 0 ∷ (2 ^ 63) ∷ []) 8 ≡ Some 255
unfolding next_category_from first_from has bit
next_last = refl

next_above : next_category_from ((2 ^ 7) ∷ 0 ∷ 0 ∷ (2 ^ 63) ∷ []) 256 ≡ None
unfolding next_category_from first_from has bit
next_above = refl

-- virus prevention 0 to 19, user 20 to 179, administrative 180 to 199
virus_ends : (region_of 0 ≡ 0) × (region_of 19 ≡ 0)
unfolding region_of
virus_ends = (refl, refl)

user_ends : (region_of 20 ≡ 1) × (region_of 179 ≡ 1)
unfolding region_of
user_ends = (refl, refl)

administrative_ends : (region_of 180 ≡ 2) × (region_of 199 ≡ 2)
unfolding region_of
administrative_ends = (refl, refl)

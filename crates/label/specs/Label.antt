-- Document 01, "Labels and regions": labels, with a set of any number of words.
use Rattle.std.specs.Prelude.{Bool, ◌&&◌, List, ◌≡◌, ℕ, ◌<◌, ◌^◌, max, min, eqb, leb, length, replicate}
use Rattle.label.specs.Words.{includes_of, intersection_of, same_of, single_of, union_of, word_at, words}
use Rattle.label.specs.declared.Label.{Label}

abbrev pub label_of : ℕ → List ℕ → Label
label_of h ws = record { hierarchy = h; categories = ws }

-- hierarchy 0 and no categories: what is held where there is no label
abbrev pub zero_label : Label
zero_label = label_of 0 (replicate words 0)

-- valid hierarchies are 0 to 199
unfoldable pub valid_of : Label → Bool
valid_of a = leb a.hierarchy 199

-- a's hierarchy is at least b's and a's categories include all of b's
unfoldable pub dominates_of : Label → Label → Bool
dominates_of a b = leb b.hierarchy a.hierarchy && includes_of a.categories b.categories

unfoldable pub equal_of : Label → Label → Bool
equal_of a b = eqb a.hierarchy b.hierarchy && same_of a.categories b.categories

-- the larger hierarchy, and the union
unfoldable pub upper_bound_of : Label → Label → Label
upper_bound_of a b = label_of (max a.hierarchy b.hierarchy) (union_of a.categories b.categories)

-- the smaller hierarchy, and the intersection
unfoldable pub lower_bound_of : Label → Label → Label
lower_bound_of a b = label_of (min a.hierarchy b.hierarchy) (intersection_of a.categories b.categories)

-- a with the category c
unfoldable pub with_category_of : Label → ℕ → Label
with_category_of a c = label_of a.hierarchy (union_of a.categories (single_of c))

-- what every value of the code's type Label has (`label::typed` proves it): laws that need it are laws of every label that there is
pub record Typed (a : Label) : Type 0 where
  pub hierarchy : a.hierarchy < 2 ^ 64
  pub length_is : length a.categories ≡ words
  pub word : (i : ℕ) → word_at a.categories i < 2 ^ 64

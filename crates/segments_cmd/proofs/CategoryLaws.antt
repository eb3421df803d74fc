-- The categories of a label as text, from one to the next.
use mathlib.Core.List.{List, [], ◌∷◌, ◌++◌, append_assoc, append-nil}
use mathlib.Core.Path.{◌≡◌, refl, sym, ap, ◌∙◌}
use Prim.Native.Nat.{ℕ, ◌+◌, ◌*◌, ◌≤◌, ◌<◌}
use native.Mathlib.Omega.{arith}
use lib.ListN.{length, length-append}
use Rattle.std.specs.Prelude.{Option, Some, None}
use Rattle.octets.specs.Bytes.{ascii}
use Rattle.console.specs.Format.{field}
use Rattle.label.specs.Words.{members_below, members_of, next_category_from}
use Rattle.label.proofs.ListingLaws.{all_listed, last_listed, next_listed, next_within}
use Rattle.segments_cmd.specs.Show.{category_numbers_text, list_text}

-- one category more
list_more : (cs : List ℕ) (c : ℕ) → list_text (cs ++ (c ∷ [])) ≡ list_text cs ++ field (ascii " ") c
unfolding list_text
list_more [] c = append-nil (field (ascii " ") c)
list_more (x ∷ cs) c = ap (λ (l : List ℕ). field (ascii " ") x ++ l) (list_more cs c) ∙ sym (append_assoc (field (ascii " ") x) (list_text cs) (field (ascii " ") c))

-- what the search from a number on has found
module _ (ws : List ℕ) (from : ℕ) (f : Option ℕ) (found : f ≡ next_category_from ws from) where
  -- a category at or above the number, which the words have room for, and which is listed next
  module _ (c : ℕ) (at : f ≡ Some c) where
    pub next_above : from ≤ c
    next_above = (next_within ws from c (sym found ∙ at)).0

    pub next_below : c < length ws * 64
    next_below = (next_within ws from c (sym found ∙ at)).1

    pub list_next : list_text (members_below ws (c + 1)) ≡ list_text (members_below ws from) ++ field (ascii " ") c
    list_next = ap list_text (next_listed ws from c (sym found ∙ at)) ∙ list_more (members_below ws from) c

  -- where there is none, all are listed
  pub list_last : f ≡ None → from ≤ length ws * 64 → list_text (members_below ws from) ≡ list_text (members_of ws)
  list_last e h = ap list_text (sym (last_listed ws from (length ws * 64) (sym found ∙ e) h) ∙ all_listed ws (length ws * 64) refl)

-- ---- `-` where there are none

pub none_listed : (cs : List ℕ) → length (list_text cs) ≡ 0 → (category_numbers_text cs ≡ ascii " -") × (list_text cs ≡ [])
unfolding list_text category_numbers_text
none_listed [] e = (refl, refl)
none_listed (c ∷ cs) e = absurd (omega (arith, simp length-append at e))

pub some_listed : (cs : List ℕ) → (length (list_text cs) ≡ 0 → ⊥) → category_numbers_text cs ≡ list_text cs
unfolding list_text category_numbers_text
some_listed [] e = absurd (e refl)
some_listed (c ∷ cs) e = refl

-- What a caller sees, with the read override and without.
use mathlib.Core.Bool.{Bool, true, false, ◌||◌}
use mathlib.Core.Path.{◌≡◌, refl}
use Rattle.label.specs.Caller.{sees_of}
use Rattle.label.specs.Label.{dominates_of}
use Rattle.label.specs.declared.Label.{Label}
use Rattle.label.specs.declared.caller.Caller.{Caller}
use Rattle.common.proofs.BoolLaws.{or_first}

abbrev pub with_override : Caller → Bool → Caller
with_override c o = record { label = c.label; read_override = o }

-- with the read override, every label
pub sees_all : (c : Caller) (l : Label) → c.read_override ≡ true → sees_of c l ≡ true
unfolding sees_of
sees_all c l e = or_first _ e

-- without it, exactly those that its own label dominates
pub sees_dominated : (c : Caller) (l : Label) → c.read_override ≡ false → sees_of c l ≡ dominates_of c.label l
unfolding sees_of
sees_dominated c l e = rw e

or_still : (o o' d : Bool) → (o ≡ true → o' ≡ true) → (o || d) ≡ true → (o' || d) ≡ true
or_still true o' d h e = or_first d (h refl)
or_still false true d h e = refl
or_still false false d h e = e

-- what is seen is seen where the override is gained
pub sees_still : (c : Caller) (o : Bool) (l : Label) → (c.read_override ≡ true → o ≡ true) → sees_of c l ≡ true → sees_of (with_override c o) l ≡ true
unfolding sees_of
sees_still c o l h e = or_still c.read_override o (dominates_of c.label l) h e

use Rattle.std.proofs.Common.{◌≡◌, ℕ, refl, eqb, false, ◌||◌, List, [], ◌∷◌, Some, None}
use Rattle.std.specs.List.{slice_get}
use Rattle.octets.specs.Bytes.{lf}
use Rattle.console.specs.Command.{skipped_of}
use Rattle.console.proofs.command.is_skipped.Goals as goal

by_first : (line : List ℕ) (b : ℕ) → Some b ≡ slice_get line 0 → (eqb b lf || eqb b 35) ≡ skipped_of line
unfolding skipped_of
by_first [] b e = cc
by_first (x ∷ xs) b e = let d : b ≡ x = cc in rw d

no_first : (line : List ℕ) → None ≡ slice_get line 0 → false ≡ skipped_of line
unfolding skipped_of
no_first [] e = refl
no_first (x ∷ xs) e = cc

pub returns-in-Some : goal.returns-in-Some
returns-in-Some c = by_first c.args.line.now _ c.in-Some.ensures.value

pub returns-in-None : goal.returns-in-None
returns-in-None c = no_first c.args.line.now c.in-None.ensures.value

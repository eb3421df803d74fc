-- Each valid hierarchy lies in exactly one region.
use mathlib.Core.Bool.{Bool, true, false, cond, ◌&&◌}
use mathlib.Core.Path.{◌≡◌, refl}
use Prim.Native.Nat.{ℕ, zero, suc, ◌≤◌, ◌<◌}
use native.Mathlib.Omega.{arith}
use lib.Dec.{leb, lit<}
use borrow.Author.Tests.{leb-true, leb-false, le-leb, lt-leb}
use Rattle.common.specs.Index.{every}
use Rattle.label.specs.Region.{first_hierarchy, last_hierarchy, region_of, regions}
use Rattle.common.proofs.BoolLaws.{first_true, second_true}
use Rattle.common.proofs.IndexLaws.{every_at}

pub record Within (r h : ℕ) : Type 0 where
  pub known : r < regions
  pub first : first_hierarchy r ≤ h
  pub last : h ≤ 199 → h ≤ last_hierarchy r

-- the region of a hierarchy holds it, where it is valid
pub region_within : (h : ℕ) → Within (region_of h) h
unfolding region_of
region_within h = go (leb h 19) refl (leb h 179) refl
  where
    go : (p : Bool) → leb h 19 ≡ p → (q : Bool) → leb h 179 ≡ q → Within (cond p 0 (cond q 1 2)) h
    go true e q f = let a = leb-true h 19 e in record { known = lit< tt; first = omega arith; last = λ v. omega arith }
    go false e true f =
        let a = leb-false h 19 e in
        let b = leb-true h 179 f in
        record { known = lit< tt; first = omega arith; last = λ v. omega arith }
    go false e false f = let b = leb-false h 179 f in record { known = lit< tt; first = omega arith; last = λ v. omega arith }

-- and it is the only one that does
pub region_unique : (r h : ℕ) → r < regions → first_hierarchy r ≤ h → h ≤ last_hierarchy r → region_of h ≡ r
unfolding region_of
region_unique zero h k f l = simp (le-leb h 19 l)
region_unique (suc zero) h k f l = simp (lt-leb h 19 f, le-leb h 179 l)
region_unique (suc (suc zero)) h k f l = let g : 19 < h = omega arith in simp (lt-leb h 19 g, lt-leb h 179 f)
region_unique (suc (suc (suc r))) h k f l = absurd (omega arith)

-- a region's borders are in order, and valid: a test over the whole table, and the rule at each region
borders : every (λ r. leb (first_hierarchy r) (last_hierarchy r) && leb (last_hierarchy r) 199) regions ≡ true
unfolding every
borders = refl

pub region_order : (r : ℕ) → r < regions → (first_hierarchy r ≤ last_hierarchy r) × (last_hierarchy r ≤ 199)
region_order r h =
    let e = every_at (λ k. leb (first_hierarchy k) (last_hierarchy k) && leb (last_hierarchy k) 199) regions r borders h in
    (leb-true (first_hierarchy r) (last_hierarchy r) (first_true _ _ e), leb-true (last_hierarchy r) 199 (second_true (leb (first_hierarchy r) (last_hierarchy r)) _ e))

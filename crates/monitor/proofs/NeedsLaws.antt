-- What is decided by the privileges that a request needs is what is decided by the table of intents.
use mathlib.Core.Bool.{Bool, true, false, not, ◌&&◌, ◌||◌, and-true, and-false, or_assoc, or-false}
use mathlib.Core.List.{List, [], ◌∷◌}
use mathlib.Core.Path.{◌≡◌, refl, ap, ap₂, ◌∙◌}
use native.Mathlib.Omega.{arith}
use Rattle.std.proofs.lemmas.Grind.{common_steps}
use Rattle.common.specs.Answer.{require}
use Rattle.monitor.specs.Monitor.{Access, Modify, Observe, Row, applies, caller_sees, decide_by, decision_for, denied, grant_by, intents_by, met_of, override_of, some_row, table, unmet, valid_of}
use Rattle.monitor.specs.Internal.Needs.{answer_by, modifies_of, needed_of, observes_of}
use Rattle.monitor.specs.declared.Request.{Request}

-- ---- rows by their access

abbrev observing : Access → Bool
observing Observe = true
observing Modify = false

abbrev modifying : Access → Bool
modifying Observe = false
modifying Modify = true

-- whether some row that observes, or modifies, is asked for
abbrev any_observing : (Row → Bool) → List Row → Bool
any_observing asked xs = some_row (λ x. asked x && observing x.access) xs

abbrev any_modifying : (Row → Bool) → List Row → Bool
any_modifying asked xs = some_row (λ x. asked x && modifying x.access) xs

one_row : (test : Access → Bool) (p : Bool) (a : Access) (o m : Bool) →
    (p && test a || (o && test Observe || m && test Modify))
    ≡ ((p && observing a || o) && test Observe || (p && modifying a || m) && test Modify)
one_row test p Observe o m = grind (arith, common_steps)
one_row test p Modify o m = grind (arith, common_steps)

-- a test that goes by the access holds of some row that is asked for, if it holds of an access that such a row has
by_access : (asked : Row → Bool) (test : Access → Bool) (xs : List Row) →
    some_row (λ x. asked x && test x.access) xs ≡ (any_observing asked xs && test Observe || any_modifying asked xs && test Modify)
unfolding some_row
by_access asked test [] = refl
by_access asked test (x ∷ xs) =
    ap (λ (q : Bool). asked x && test x.access || q) (by_access asked test xs)
    ∙ one_row test (asked x) x.access (any_observing asked xs) (any_modifying asked xs)

-- ---- the table by access

observes_table : (r : Request) → any_observing (applies r) table ≡ observes_of r.intents
unfolding some_row table observes_of
observes_table r = simp (and-true, and-false, or-false, or_assoc)

modifies_table : (r : Request) → any_modifying (applies r) table ≡ modifies_of r.intents r.object.class
unfolding some_row table modifies_of
modifies_table r = simp (and-true, and-false, or-false, or_assoc)

table_by_access : (r : Request) (test : Access → Bool) →
    some_row (λ x. applies r x && test x.access) table
    ≡ (observes_of r.intents && test Observe || modifies_of r.intents r.object.class && test Modify)
table_by_access r test =
    by_access (applies r) test table
    ∙ ap₂ (λ (o m : Bool). o && test Observe || m && test Modify) (observes_table r) (modifies_table r)

-- ---- the privileges that are needed

neither : (o m p : Bool) → (o && not (m || p)) ≡ (o && not m && not p)
neither o m p = grind (arith, common_steps)

unmet_needed : (r : Request) → some_row (unmet r) table ≡ ((needed_of r).read || (needed_of r).write)
unfolding needed_of
unmet_needed r = table_by_access r (λ a. not (met_of r.credentials.label r.object a))

denied_needed : (r : Request) →
    some_row (denied r) table
    ≡ ((needed_of r).read && not r.credentials.privileges.read || (needed_of r).write && not r.credentials.privileges.write)
unfolding needed_of
denied_needed r =
    let met = met_of r.credentials.label r.object in
    let p = r.credentials.privileges in
    table_by_access r (λ a. not (met a || override_of a p))
    ∙ ap₂ ◌||◌
    (neither (observes_of r.intents) (met Observe) p.read)
    (neither (modifies_of r.intents r.object.class) (met Modify) p.write)

pub intents_needed : (r : Request) → intents_by table r ≡ answer_by (needed_of r) r.credentials.privileges
unfolding intents_by grant_by answer_by needed_of
intents_needed r = rw (denied_needed r, unmet_needed r)

pub decide_needed : (r : Request) →
    decision_for r ≡ require (valid_of r) 22 (require (caller_sees r) 13 (answer_by (needed_of r) r.credentials.privileges))
unfolding decide_by
decide_needed r = rw (intents_needed r)

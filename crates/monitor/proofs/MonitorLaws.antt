-- What the monitor's decisions come from: the theorems to read.
use mathlib.Core.Bool.{Bool, true, false, not, ◌&&◌, ◌||◌, and-true, true≢false}
use mathlib.Core.List.{List, [], ◌∷◌}
use mathlib.Core.Logic.{◌⊎◌, inl, inr}
use Rattle.std.specs.Prelude.{None}
use mathlib.Core.Path.{◌≡◌, refl, sym, ap, ap₂, ◌∙◌}
use Prim.Native.Nat.{ℕ}
use native.Mathlib.Omega.{arith}
use Rattle.std.proofs.lemmas.Grind.{common_steps}
use Rattle.common.specs.Answer.{Answer, granted, refused, require}
use Rattle.label.specs.Caller.{caller_valid, sees_of}
use Rattle.label.specs.Label.{dominates_of}
use Rattle.label.specs.declared.Label.{Label}
use Rattle.label.specs.declared.caller.Caller.{Caller}
use Rattle.range.specs.Tuple
use Rattle.range.specs.declared.tuple.Tuple.{Tuple}
use Rattle.common.proofs.AnswerLaws.{passed, stopped}
use Rattle.label.proofs.LabelLaws.{dominates_refl}
use Rattle.label.proofs.CallerLaws.{with_override}
use Rattle.common.proofs.BoolLaws.{either, first_true, not_so, or_first, or_second, same_truth, second_true}
use Rattle.monitor.specs.Monitor.{Access, Modify, Observe, Row, applies, asks, attribute_valid, caller_sees, credentials_valid, decide_by, decision_for, denied, grant_by, implies, intent_get, intent_set, intents_by, is_file, kind_valid, met_of, object_valid, override_of, some_row, table, unmet, valid_of}
use Rattle.monitor.specs.Internal.Needs.{answer_by, needed_of}
use Rattle.monitor.specs.declared.Credentials.{Credentials}
use Rattle.monitor.specs.declared.FileKind.{FileKind}
use Rattle.monitor.specs.declared.Object.{Object}
use Rattle.monitor.specs.declared.Privileges.{Privileges}
use Rattle.monitor.specs.declared.Request.{Request}
use Rattle.monitor.proofs.NeedsLaws.{decide_needed}
use Rattle.monitor.proofs.ValidLaws.{valid_parts}

-- ---- requests that differ in one thing

abbrev pub with_credentials : Request → Credentials → Request
with_credentials r c =
    record { credentials = c; object = r.object; intents = r.intents; attribute = r.attribute; caller = r.caller }

abbrev pub with_privileges : Request → Privileges → Request
with_privileges r p = with_credentials r (record { label = r.credentials.label; range = r.credentials.range; privileges = p })

abbrev pub with_object : Request → Object → Request
with_object r o =
    record { credentials = r.credentials; object = o; intents = r.intents; attribute = r.attribute; caller = r.caller }

abbrev pub with_kind : Request → FileKind → Request
with_kind r k =
    with_object r (record { class = r.object.class; kind = k; present = r.object.present; label = r.object.label; tuple = r.object.tuple })

-- the object's label, or its tuple, and whether it is there
abbrev pub with_label : Request → Bool → Label → Request
with_label r there l =
    with_object r (record {
      class = r.object.class;
      kind = r.object.kind;
      present = record { label = there; tuple = r.object.present.tuple };
      label = l;
      tuple = r.object.tuple;
    })

abbrev pub with_tuple : Request → Bool → Tuple → Request
with_tuple r there t =
    with_object r (record {
      class = r.object.class;
      kind = r.object.kind;
      present = record { label = r.object.present.label; tuple = there };
      label = r.object.label;
      tuple = t;
    })

abbrev pub with_intents : Request → ℕ → ℕ → Request
with_intents r intents attribute =
    record { credentials = r.credentials; object = r.object; intents = intents; attribute = attribute; caller = r.caller }

abbrev pub with_attribute : Request → ℕ → Request
with_attribute r a = with_intents r r.intents a

abbrev pub with_caller : Request → Caller → Request
with_caller r c =
    record { credentials = r.credentials; object = r.object; intents = r.intents; attribute = r.attribute; caller = c }

-- ---- rows of a list

-- x is a row of the list
abbrev pub In : Row → List Row → Type 0
In x [] = ⊥
In x (y ∷ ys) = (x ≡ y) ⊎ In x ys

any_of : (f : Row → Bool) (x : Row) (xs : List Row) → In x xs → f x ≡ true → some_row f xs ≡ true
unfolding some_row
any_of f x [] m e = elim m [ ]
any_of f x (y ∷ ys) (inl p) e = or_first _ (ap f (sym p) ∙ e)
any_of f x (y ∷ ys) (inr h) e = or_second (f y) (any_of f x ys h e)

none_of : (f : Row → Bool) (x : Row) (xs : List Row) → In x xs → some_row f xs ≡ false → f x ≡ false
none_of f x xs h e = not_so (f x) (λ k. true≢false (sym (any_of f x xs h k) ∙ e))

-- what follows from each row for which f holds follows where f holds for any
from_any : {C : Type 0} (f : Row → Bool) (xs : List Row) → ((x : Row) → In x xs → f x ≡ true → C) → some_row f xs ≡ true → C
unfolding some_row
from_any f [] h e = absurd (true≢false (sym e))
from_any {C} f (y ∷ ys) h e = by (either (f y) (some_row f ys) e) (from_any f ys (λ x m. h x (inr m)))
  where
    by : (f y ≡ true) ⊎ (some_row f ys ≡ true) → (some_row f ys ≡ true → C) → C
    by (inl k) rest = h y (inl refl) k
    by (inr k) rest = rest k

-- ---- the order of the intents plays no part

any_same : (f : Row → Bool) (xs ys : List Row) → ((x : Row) → In x xs → In x ys) → ((x : Row) → In x ys → In x xs) → some_row f xs ≡ some_row f ys
any_same f xs ys h k =
    same_truth _ _ (from_any f xs (λ x m. any_of f x ys (h x m))) (from_any f ys (λ x m. any_of f x xs (k x m)))

-- a list with the rows of the table, in whatever order and however often, decides as the table does
pub order_of_intents : (rows : List Row) (r : Request) → ((x : Row) → In x rows → In x table) → ((x : Row) → In x table → In x rows)
    → decide_by rows r ≡ decision_for r
unfolding decide_by intents_by grant_by
order_of_intents rows r h k = rw (any_same (denied r) rows table h k, any_same (unmet r) rows table h k)

-- ---- what a grant means

-- the request is valid, the caller sees what it asks about, no intent is denied and set attribute has relabel; the answer
pub record Granted (r : Request) (n : ℕ) : Type 0 where
  pub valid : valid_of r ≡ true
  pub seen : caller_sees r ≡ true
  pub allowed : some_row (denied r) table ≡ false
  pub relabel : (asks r.intents intent_set && not r.credentials.privileges.relabel) ≡ false
  pub answer : n ≡ grant_by table r

pub granted_parts : (r : Request) (n : ℕ) → decision_for r ≡ granted n → Granted r n
unfolding decide_by intents_by
granted_parts r n e =
    record {
      valid = grind (arith, common_steps);
      seen = grind (arith, common_steps);
      allowed = grind (arith, common_steps);
      relabel = grind (arith, common_steps);
      answer = grind (arith, common_steps);
    }

pub parts_granted : (r : Request) (n : ℕ) → Granted r n → decision_for r ≡ granted n
unfolding decide_by intents_by
parts_granted r n g = rw (g.valid, g.seen, g.allowed, g.relabel, g.answer)

-- ---- what the caller has to see

-- it goes by the caller and the two labels alone: not by privileges, nor by the ends of the subject's range and of the object's tuple
pub caller_by_labels : (r s : Request) → r.caller ≡ s.caller → r.credentials.label ≡ s.credentials.label
    → r.object.present.label ≡ s.object.present.label → r.object.label ≡ s.object.label → caller_sees r ≡ caller_sees s
unfolding caller_sees
caller_by_labels r s c l p o = rw (c, l, p, o)

abbrev pub caller_dominates : Request → Bool
caller_dominates r =
    dominates_of r.caller.label r.credentials.label
    && implies r.object.present.label (dominates_of r.caller.label r.object.label)

-- the override, or a label that dominates both
pub caller_passes : (r : Request) → caller_sees r ≡ (r.caller.read_override || caller_dominates r)
unfolding caller_sees sees_of
caller_passes r = grind (arith, common_steps)

caller_dominates_lem : (r : Request) → r.caller.read_override ≡ false → caller_sees r ≡ caller_dominates r
caller_dominates_lem r e = caller_passes r ∙ rw e

-- ---- what a grant says of each row

met_alone : (a m o : Bool) → (a && not (m || o)) ≡ false → o ≡ false → a ≡ true → m ≡ true
met_alone a m o e f h = grind (arith, common_steps)

-- the test of a row that is asked for is met where the subject lacks its override
pub granted_met : (r : Request) (n : ℕ) (x : Row) → In x table → decision_for r ≡ granted n → applies r x ≡ true
    → override_of x.access r.credentials.privileges ≡ false → met_of r.credentials.label r.object x.access ≡ true
granted_met r n x m e a o =
    met_alone
    (applies r x)
    (met_of r.credentials.label r.object x.access)
    (override_of x.access r.credentials.privileges)
    (none_of (denied r) x table m (granted_parts r n e).allowed)
    o
    a

-- ---- a grant where there is no privilege at all

abbrev pub no_privileges : Privileges
no_privileges = record { read = false; write = false; relabel = false }

-- the answer is 0, and every test was met; where the caller has no override either, its label dominates the subject's, and the object's where
-- there is one
pub record Unprivileged (r : Request) (n : ℕ) : Type 0 where
  pub answer : n ≡ 0
  pub met : (x : Row) → In x table → applies r x ≡ true → met_of r.credentials.label r.object x.access ≡ true
  pub caller : r.caller.read_override ≡ false → caller_dominates r ≡ true

no_override : (a : Access) (p : Privileges) → p ≡ no_privileges → override_of a p ≡ false
no_override Observe p e = ap (λ (q : Privileges). q.read) e
no_override Modify p e = ap (λ (q : Privileges). q.write) e

pub unprivileged_grant : (r : Request) (n : ℕ) → r.credentials.privileges ≡ no_privileges → decision_for r ≡ granted n → Unprivileged r n
unfolding grant_by
unprivileged_grant r n p e =
    record { answer = g.answer ∙ rw (no_row, no_set); met = met; caller = λ o. sym (caller_dominates_lem r o) ∙ g.seen }
  where
    g : Granted r n
    g = granted_parts r n e

    met : (x : Row) → In x table → applies r x ≡ true → met_of r.credentials.label r.object x.access ≡ true
    met x m a = granted_met r n x m e a (no_override x.access r.credentials.privileges p)

    no_row : some_row (unmet r) table ≡ false
    no_row =
        not_so (some_row (unmet r) table) (from_any (unmet r) table (λ x m u.
        let a = first_true (applies r x) _ u in
        true≢false (sym (second_true (applies r x) _ u) ∙ ap not (met x m a))))

    no_set : asks r.intents intent_set ≡ false
    no_set =
        sym (and-true _) ∙ ap (λ (q : Privileges). asks r.intents intent_set && not q.relabel) (sym p) ∙ g.relabel

-- ---- more privileges

-- each privilege of p is one of q
pub record AmongPrivileges (p q : Privileges) : Type 0 where
  pub read : p.read ≡ true → q.read ≡ true
  pub write : p.write ≡ true → q.write ≡ true
  pub relabel : p.relabel ≡ true → q.relabel ≡ true

override_among : (a : Access) (p q : Privileges) → AmongPrivileges p q → override_of a p ≡ true → override_of a q ≡ true
override_among Observe p q h e = h.read e
override_among Modify p q h e = h.write e

denied_still : (a m o o' : Bool) → (o ≡ true → o' ≡ true) → (a && not (m || o')) ≡ true → (a && not (m || o)) ≡ true
denied_still a m o o' h e = grind (arith, common_steps)

relabel_still : (s p q : Bool) → (p ≡ true → q ≡ true) → (s && not p) ≡ false → (s && not q) ≡ false
relabel_still s p q h e = grind (arith, common_steps)

-- a caller that sees what it asks about sees it where it gains the override
caller_still : (r : Request) (o : Bool) → (r.caller.read_override ≡ true → o ≡ true) → caller_sees r ≡ true
    → caller_sees (with_caller r (with_override r.caller o)) ≡ true
unfolding caller_sees sees_of
caller_still r o k e = grind (arith, common_steps)

-- with other privileges of the subject, and with the read override of the caller or without
abbrev pub with_gained : Request → Privileges → Bool → Request
with_gained r q o = with_caller (with_privileges r q) (with_override r.caller o)

-- what is granted is granted with the same answer where there are more privileges, the subject's or the caller's
pub more_privileges : (r : Request) (q : Privileges) (o : Bool) (n : ℕ) → AmongPrivileges r.credentials.privileges q
    → (r.caller.read_override ≡ true → o ≡ true) → decision_for r ≡ granted n → decision_for (with_gained r q o) ≡ granted n
unfolding valid_of credentials_valid caller_sees grant_by
more_privileges r q o n h k e =
    parts_granted (with_gained r q o) n (record {
      valid = g.valid;
      seen = caller_still r o k g.seen;
      allowed = not_so _ (from_any (denied (with_privileges r q)) table (λ x m d. true≢false (sym (any_of (denied r) x table m (still x d)) ∙ g.allowed)));
      relabel = relabel_still (asks r.intents intent_set) _ _ h.relabel g.relabel;
      answer = g.answer;
    })
  where
    g : Granted r n
    g = granted_parts r n e

    still : (x : Row) → denied (with_privileges r q) x ≡ true → denied r x ≡ true
    still x d =
        denied_still
        (applies r x)
        (met_of r.credentials.label r.object x.access)
        (override_of x.access r.credentials.privileges)
        (override_of x.access q)
        (override_among x.access _ q h)
        d

-- ---- what plays no part

-- a decision goes by whether the request is valid, by whether the caller sees what it asks about, by the privileges that are needed and by those
-- that are there
pub same_decision : (r s : Request) → valid_of r ≡ valid_of s → caller_sees r ≡ caller_sees s → needed_of r ≡ needed_of s
    → r.credentials.privileges ≡ s.credentials.privileges → decision_for r ≡ decision_for s
same_decision r s v c n p =
    decide_needed r
    ∙ ap₂ (λ (t : Bool) (rest : Answer ℕ). require t 22 rest) v (ap₂ (λ (t : Bool) (rest : Answer ℕ). require t 13 rest) c (ap₂ answer_by n p))
    ∙ sym (decide_needed s)

-- the tuple, or that there is none, where a label governs and the tuple is valid
pub label_governs : (r : Request) (f g : Bool) (t u : Tuple) → r.object.present.label ≡ true
    → implies f (Tuple.valid_of t) ≡ true → implies g (Tuple.valid_of u) ≡ true → decision_for (with_tuple r f t) ≡ decision_for (with_tuple r g u)
unfolding valid_of object_valid caller_sees needed_of met_of
label_governs r f g t u e h k = same_decision _ _ (rw (e, h, k)) refl (rw e) refl

-- what a label or a tuple holds that is not there
pub absent_label : (r : Request) (l m : Label) → decision_for (with_label r false l) ≡ decision_for (with_label r false m)
unfolding valid_of object_valid caller_sees needed_of met_of
absent_label r l m = same_decision _ _ refl refl refl refl

pub absent_tuple : (r : Request) (t u : Tuple) → decision_for (with_tuple r false t) ≡ decision_for (with_tuple r false u)
unfolding valid_of object_valid caller_sees needed_of met_of
absent_tuple r t u = same_decision _ _ refl refl refl refl

-- the file kind of what is no file
pub kind_of_no_file : (r : Request) (k l : FileKind) → is_file r.object.class ≡ false → decision_for (with_kind r k) ≡ decision_for (with_kind r l)
unfolding valid_of object_valid kind_valid caller_sees needed_of met_of
kind_of_no_file r k l e = same_decision _ _ (rw e) refl refl refl

-- the attribute type where no attribute is asked for
pub attribute_unasked : (r : Request) (a b : ℕ) → (asks r.intents intent_get || asks r.intents intent_set) ≡ false
    → decision_for (with_attribute r a) ≡ decision_for (with_attribute r b)
unfolding valid_of attribute_valid caller_sees needed_of
attribute_unasked r a b e = same_decision _ _ (rw e) refl refl refl

-- ---- the caller

-- an invalid one is refused with 22, with the override too, whatever it asks
pub invalid_caller : (r : Request) → caller_valid r.caller ≡ false → decision_for r ≡ refused 22 None
invalid_caller r e =
    decide_needed r ∙ stopped (valid_of r) 22 _ (not_so (valid_of r) (λ h. true≢false (sym (valid_parts r h).caller ∙ e)))

-- one that does not see what it asks about is refused with 13, whatever privileges the subject has and whatever it intends
pub caller_denied : (r : Request) (p : Privileges) (intents attribute : ℕ) → caller_sees r ≡ false
    → valid_of (with_intents (with_privileges r p) intents attribute) ≡ true
    → decision_for (with_intents (with_privileges r p) intents attribute) ≡ refused 13 None
unfolding decide_by caller_sees
caller_denied r p intents attribute e v = passed _ 22 _ v ∙ stopped _ 13 _ e

-- one that may ask
pub record MayAsk (r : Request) (c : Caller) : Type 0 where
  pub valid : caller_valid c ≡ true
  pub seen : caller_sees (with_caller r c) ≡ true

-- it plays no other part: two that may ask get the same decision, so that the override by which one of them sees never makes the answer 1
pub caller_no_other_part : (r : Request) (c d : Caller) → MayAsk r c → MayAsk r d → decision_for (with_caller r c) ≡ decision_for (with_caller r d)
unfolding valid_of needed_of
caller_no_other_part r c d f g = same_decision _ _ (rw (f.valid, g.valid)) (f.seen ∙ sym g.seen) refl refl

-- where a process asks for itself, without the override, it sees itself, and has to dominate the object's label, whatever it intends
pub asks_for_itself : (r : Request) → r.caller.label ≡ r.credentials.label → r.caller.read_override ≡ false
    → caller_sees r ≡ implies r.object.present.label (dominates_of r.credentials.label r.object.label)
asks_for_itself r e o = caller_dominates_lem r o ∙ rw (e, dominates_refl r.credentials.label)

-- What a valid request has.
use mathlib.Core.Bool.{Bool, true, false, ◌&&◌, true≢false}
use mathlib.Core.Path.{◌≡◌, refl, sym, ◌∙◌}
use Rattle.std.specs.Prelude.{Result}
use native.Mathlib.Omega.{arith}
use Rattle.std.proofs.lemmas.Grind.{common_steps}
use Rattle.common.specs.Answer.{answer_of, granted, require}
use Rattle.common.specs.declared.errno.Errno.{Errno}
use Rattle.label.specs.Caller.{caller_valid}
use Rattle.label.specs.Label
use Rattle.label.specs.declared.Label.{Label}
use Rattle.range.specs.Range
use Rattle.range.specs.Tuple
use Rattle.common.proofs.AnswerLaws.{read_by, test_read}
use Rattle.common.proofs.BoolLaws.{and_implied, both, first_true, not_so, second_true, three_true}
use Rattle.range.proofs.RangeLaws.{contains_valid}
use Rattle.monitor.specs.Monitor.{attribute_valid, credentials_valid, implies, intents_valid, kind_valid, label_or_tuple, label_valid, object_valid, tuple_valid, valid_of}
use Rattle.monitor.specs.declared.Credentials.{Credentials}
use Rattle.monitor.specs.declared.Object.{Object}
use Rattle.monitor.specs.declared.Request.{Request}

pub record Valid (r : Request) : Type 0 where
  pub intents : intents_valid r.intents ≡ true
  pub credentials : credentials_valid r.credentials ≡ true
  pub object : object_valid r.object ≡ true
  pub kind : kind_valid r.intents r.object.class r.object.kind ≡ true
  pub attribute : attribute_valid r.intents r.attribute ≡ true
  pub caller : caller_valid r.caller ≡ true

pub valid_parts : (r : Request) → valid_of r ≡ true → Valid r
unfolding valid_of
valid_parts r e =
    record {
      intents = grind (arith, common_steps);
      credentials = grind (arith, common_steps);
      object = grind (arith, common_steps);
      kind = grind (arith, common_steps);
      attribute = grind (arith, common_steps);
      caller = grind (arith, common_steps);
    }

-- a label inside a valid range is valid
pub subject_valid : (c : Credentials) → credentials_valid c ≡ true → Label.valid_of c.label ≡ true
unfolding credentials_valid
subject_valid c e =
    let v = Range.valid_of c.range in
    contains_valid c.range c.label (first_true v _ e) (second_true v _ e)

-- so that what `range::contains` answers, which tests the label too, tells of the credentials
pub credentials_read : (c : Credentials) {u v : Result Bool Errno} → u ≡ v
    → answer_of u ≡ require (Range.valid_of c.range && Label.valid_of c.label) 22 (granted (Range.contains_of c.range c.label))
    → read_by (λ b. b) (answer_of v) ≡ credentials_valid c
unfolding credentials_valid
credentials_read c e h =
    test_read (λ b. b) (Range.valid_of c.range && Label.valid_of c.label) (Range.contains_of c.range c.label) 22 e h
    ∙ and_implied _ _ _ (contains_valid c.range c.label)

-- what `range::valid` and the method `holds` of a range answer, which asks nothing of the label, is whether the credentials are valid
pub credentials_held : (c : Credentials) {v h : Bool} → v ≡ Range.valid_of c.range → h ≡ Range.contains_of c.range c.label → (v && h) ≡ credentials_valid c
unfolding credentials_valid
credentials_held c e f = rw (e, f) refl

-- ---- the object's tuple, and the subject's label beside it

pub tuple_valid_lem : (o : Object) → object_valid o ≡ true → tuple_valid o ≡ true
unfolding object_valid
tuple_valid_lem o e = (three_true (label_or_tuple o) (label_valid o) _ e).2

implies_both : (p q s : Bool) → implies p q ≡ true → s ≡ true → implies p (q && s) ≡ true
implies_both true q s e f = both e f
implies_both false q s e f = refl

pub implies_first : (p q s : Bool) → implies p (q && s) ≡ true → implies p q ≡ true
implies_first true q s e = first_true q s e
implies_first false q s e = refl

-- what is tested of the two
abbrev pub tested : Label → Object → Bool
tested subject o = implies o.present.tuple (Tuple.valid_of o.tuple && Label.valid_of subject)

-- a request whose tuple is there is invalid, if the tuple or the subject's label is
pub tuple_refused : (r : Request) → tested r.credentials.label r.object ≡ false → valid_of r ≡ false
tuple_refused r e =
    not_so (valid_of r) (λ h.
    let v = valid_parts r h in
    true≢false (sym (implies_both r.object.present.tuple _ _ (tuple_valid_lem r.object v.object) (subject_valid r.credentials v.credentials)) ∙ e))

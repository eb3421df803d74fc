-- The laws of lines by their kind, and the ways in which their readers and writers end.
use mathlib.Core.Bool.{Bool, true, false, cond, ◌&&◌, true≢false}
use mathlib.Core.List.{List, [], ◌∷◌, ◌++◌}
use mathlib.Core.Logic.{◌↔◌}
use Rattle.std.specs.Prelude.{None, Result, Err}
use mathlib.Core.Path.{◌≡◌, refl, sym, ap, ap₂, ◌∙◌}
use Prim.Native.Nat.{ℕ, ◌+◌, ◌*◌, ◌≤◌, ◌<◌}
use native.Mathlib.Omega.{arith}
use lib.Dec.{leb}
use lib.ListN.{drop, length, replicate, set, take, length-replicate, length-set}
use lib.Seq.{take_at, take-suc-set}
use borrow.Author.Tests.{eq-eqb, le-leb, leb-false, lt-leb}
use Rattle.common.specs.Answer.{Answer, granted, is_granted, refused, refused_by, require}
use Rattle.common.specs.Buffer.{WrittenTo}
use Rattle.common.specs.declared.errno.Errno.{Errno}
use Rattle.common.proofs.AnswerLaws.{grant_passed, grant_told, passed, stopped}
use Rattle.common.proofs.BufferLaws.{writes_nothing}
use Rattle.common.proofs.BoolLaws.{both, first_true, not_so, second_true}
use Rattle.frame.specs.Frame.{body_of, frame_answer_of, frame_of, framed_of, max_body, read_body, sound_body}
use Rattle.common.proofs.BytesLaws.{Bytes}
use Rattle.frame.proofs.FrameLaws.{frame_length, reads_back, reads_exactly}
use Rattle.frame.proofs.FrameLoops.{sound_short}
use Rattle.octets.specs.Bytes.{Appended, put_at}
use Rattle.octets.proofs.ByteLaws.{appended_put}
use Rattle.label_codec.specs.Body.{byte_at, line_words}
use Rattle.hexline.specs.Internal.Contents.{Fits, form_length}
use Rattle.hexline.specs.Line.{contents_of, body_form, kind_in, kind_numbered, line_kind_of, line_of, longest_body}

-- ---- how a reader of a body ends

module _ {A : Type 0} (form : List ℕ → Bool) (contents : List ℕ → A) (valid : A → Bool) (bs : List ℕ) where
  pub body_refused : (form bs && valid (contents bs)) ≡ false → refused 22 None ≡ contents_of form contents valid bs
  unfolding contents_of
  body_refused e = sym (stopped _ 22 _ e)

  pub body_formless : form bs ≡ false → refused 22 None ≡ contents_of form contents valid bs
  body_formless e = body_refused (rw e)

  pub body_granted : {x : A} → (form bs && valid (contents bs)) ≡ true → x ≡ contents bs → granted x ≡ contents_of form contents valid bs
  unfolding contents_of
  body_granted e h = ap granted h ∙ sym (passed _ 22 _ e)

  -- the contents are tested where the body has the form
  pub body_tested : {x : A} {r : Answer A} → form bs ≡ true → x ≡ contents bs → r ≡ require (valid x) 22 (granted x) → r ≡ contents_of form contents valid bs
  unfolding contents_of
  body_tested f e h = h ∙ rw (f, e)

-- a form of one byte or more is no form of no bytes
pub form_empty : (n kind : ℕ) → body_form [] (1 + n) kind ≡ false
form_empty n kind = not_so (body_form [] (1 + n) kind) (λ e. absurd (omega (arith, form_length [] (1 + n) kind e)))

-- a line is read by its body, decoded in a buffer that has room for all bodies of which something is read
module _ {A : Type 0} (read : List ℕ → Answer A) (line : List ℕ) (room : ℕ) where
  pub by_body : read [] ≡ refused 22 None → ((bs : List ℕ) → room < length bs → read bs ≡ refused 22 None) → read_body read line ≡ read (sound_body line room)
  unfolding sound_body
  by_body empty long = go (framed_of line) (leb (length (body_of line)) room) refl
    where
      go : (f l : Bool) → leb (length (body_of line)) room ≡ l → require f 22 (read (body_of line)) ≡ read (cond (f && l) (body_of line) [])
      go true true e = refl
      go true false e = long (body_of line) (leb-false (length (body_of line)) room e) ∙ sym empty
      go false l e = sym empty

module _ {A : Type 0} (form : List ℕ → Bool) (contents : List ℕ → A) (valid : A → Bool) (line : List ℕ) (room : ℕ) where
  formless : (bs : List ℕ) → form bs ≡ false → contents_of form contents valid bs ≡ refused 22 None
  unfolding contents_of
  formless bs e = rw e

  -- the buffer has room for all bodies of the form, and no bytes are none
  module _ (fits : (bs : List ℕ) → form bs ≡ true → Fits room bs) where
    pub no_body : form [] ≡ false
    no_body = not_so (form []) (λ h. absurd (omega (arith, fits [] h)))

    pub by_contents : read_body (contents_of form contents valid) line ≡ contents_of form contents valid (sound_body line room)
    by_contents =
        by_body (contents_of form contents valid) line room (formless [] no_body) (λ bs l. formless bs (not_so (form bs) (λ h. absurd (omega (arith, fits bs h)))))

    -- n bytes of the buffer are what is decoded
    pub line_read : {x : Answer A} (bs : List ℕ) → bs ≡ sound_body line room → x ≡ contents_of form contents valid bs → x ≡ read_body (contents_of form contents valid) line
    line_read bs e r = r ∙ sym (by_contents ∙ ap (contents_of form contents valid) (sym e))

-- ---- what a reader grants

module _ {A : Type 0} (form : List ℕ → Bool) (contents : List ℕ → A) (valid : A → Bool) where
  contents_granted : (bs : List ℕ) (x : A) → contents_of form contents valid bs ≡ granted x → (form bs ≡ true) × (contents bs ≡ x) × (valid x ≡ true)
  unfolding contents_of
  contents_granted bs x e =
      let t = grant_told (form bs && valid (contents bs)) 22 x (contents bs) (sym e) in
      (first_true (form bs) (valid (contents bs)) t.0, sym t.1, ap valid t.1 ∙ second_true (form bs) (valid (contents bs)) t.0)

  pub read_granted : (line : List ℕ) (x : A) → read_body (contents_of form contents valid) line ≡ granted x → (contents (body_of line) ≡ x) × (valid x ≡ true)
  read_granted line x e =
      let t = contents_granted (body_of line) x (sym (grant_passed (framed_of line) 22 x (contents_of form contents valid (body_of line)) (sym e)).1) in
      (t.1, t.2)

  -- a line that is accepted is read as the contents that stand there
  pub read_contents : (line : List ℕ) → is_granted (read_body (contents_of form contents valid) line) ≡ true
      → read_body (contents_of form contents valid) line ≡ granted (contents (body_of line))
  unfolding contents_of
  read_contents line = go (framed_of line) (form (body_of line) && valid (contents (body_of line)))
    where
      go : (f v : Bool) {y : A} → is_granted (require f 22 (require v 22 (granted y))) ≡ true → require f 22 (require v 22 (granted y)) ≡ granted y
      go true true e = refl
      go true false e = absurd (true≢false (sym e))
      go false v e = absurd (true≢false (sym e))

-- ---- a kind's two laws, from those of its body: what the writer makes reads back, and what is accepted is what the writer makes

module _ {A : Type 0} (form : List ℕ → Bool) (contents : List ℕ → A) (valid : A → Bool) (body : A → List ℕ) (x : A) where
  pub line_back : Bytes (body x) → form (body x) ≡ true → contents (body x) ≡ x → valid x ≡ true → read_body (contents_of form contents valid) (frame_of (body x)) ≡ granted x
  unfolding contents_of
  line_back small f e v = reads_back body (contents_of form contents valid) x small (rw (f, e, v))

  pub line_only : ((bs : List ℕ) → Bytes bs → form bs ≡ true → bs ≡ body (contents bs)) → (line : List ℕ) → read_body (contents_of form contents valid) line ≡ granted x
      → (line ≡ frame_of (body x)) × (valid x ≡ true)
  line_only forth line e = (reads_exactly body (contents_of form contents valid) x only line e, (read_granted form contents valid line x e).1)
    where
      only : (bs : List ℕ) → Bytes bs → contents_of form contents valid bs ≡ granted x → bs ≡ body x
      only bs small r = let t = contents_granted form contents valid bs x r in forth bs small t.0 ∙ ap body t.1

-- the writer makes a line of x exactly if the reader gives x for that line
pub line_exact : {A : Type 0} (form : List ℕ → Bool) (contents : List ℕ → A) (valid : A → Bool) (body : A → List ℕ) (x : A)
    → (valid x ≡ true → Bytes (body x)) → (valid x ≡ true → form (body x) ≡ true) → (valid x ≡ true → contents (body x) ≡ x)
    → ((bs : List ℕ) → Bytes bs → form bs ≡ true → bs ≡ body (contents bs))
    → (line : List ℕ) → (line_of (valid x) (body x) ≡ granted line) ↔ (read_body (contents_of form contents valid) line ≡ granted x)
line_exact form contents valid body x small formed same forth line = (to (valid x) refl, from)
  where
    to : (v : Bool) → valid x ≡ v → line_of (valid x) (body x) ≡ granted line → read_body (contents_of form contents valid) line ≡ granted x
    to true v e =
        let l : frame_of (body x) ≡ line = cc (rw v at e) in
        rw l at (line_back form contents valid body x (small v) (formed v) (same v) v)
    to false v e = let no : ◌≡◌ {A = ℕ} 0 1 = cc (rw v at e) in absurd (omega arith)

    from : read_body (contents_of form contents valid) line ≡ granted x → line_of (valid x) (body x) ≡ granted line
    from e = let t = line_only form contents valid body x forth line e in rw t.1 (ap granted (sym t.0))

pub line_valid : (valid : Bool) (body line : List ℕ) → line_of valid body ≡ granted line → valid ≡ true
line_valid true body line e = refl
line_valid false body line e = let no : ◌≡◌ {A = ℕ} 0 1 = cc e in absurd (omega arith)

-- how long a line is, its LF included
pub line_length : (valid : Bool) (body line : List ℕ) → line_of valid body ≡ granted line → length line ≡ 2 * length body + 3
line_length true body line e = let l : frame_of body ≡ line = cc e in ap length (sym l) ∙ frame_length body
line_length false body line e = let no : ◌≡◌ {A = ℕ} 0 1 = cc e in absurd (omega arith)

pub form_of : (bs : List ℕ) (n kind : ℕ) → length bs ≡ n → byte_at bs 0 ≡ kind → body_form bs n kind ≡ true
unfolding body_form
form_of bs n kind e k = both (eq-eqb (length bs) n e) (eq-eqb (byte_at bs 0) kind k)

-- ---- how a writer ends: it tests the contents first, and then puts a body together

-- where the test answers what valid is, a line is due where the test holds
pub line_due : {valid test : Bool} → test ≡ valid → test ≡ true → valid ≡ true
line_due e t = sym e ∙ t

pub refuses_line : {A : Type 0} (valid : Bool) (x : A) {e : Errno} {r : Result ℕ Errno} (body before : List ℕ)
    → refused_by e ≡ require valid 22 (granted x) → r ≡ Err e → WrittenTo r (line_of valid body) before before
refuses_line valid x {e} body before h t = rw t (writes_nothing e _ before before (by valid h) refl)
  where
    by : (valid : Bool) → refused_by e ≡ require valid 22 (granted x) → line_of valid body ≡ refused_by e
    by true h = absurd (true≢false (sym (ap is_granted h)))
    by false h = cc

pub writes_line : {valid : Bool} (r : Result ℕ Errno) (body before after : List ℕ) {bs : List ℕ} → valid ≡ true → bs ≡ body → length body ≤ max_body
    → WrittenTo r (frame_answer_of bs) before after → WrittenTo r (line_of valid body) before after
writes_line r body before after v p h w =
    let fits : leb (length body) max_body ≡ true = le-leb (length body) max_body h in
    rw v (rw (p, fits) at w)

-- a body is put together in a buffer of room bytes: the kind, and what is appended behind it
pub body_put : (room kind : ℕ) (bs : List ℕ) {after : List ℕ} {n : ℕ} → 1 + length bs ≤ room → Appended (set (replicate room 0) 0 kind) 1 bs n after → take n after ≡ kind ∷ bs
unfolding put_at
body_put room kind bs h a =
    let begun = set (replicate room 0) 0 kind in
    let k = length-replicate {A = ℕ} room 0 in
    let l : length begun ≡ room = length-set (replicate room 0) 0 kind ∙ k in
    let p = appended_put (omega arith) a in
    let first : take 1 begun ≡ kind ∷ [] = take-suc-set (replicate room 0) 0 kind (omega arith) in
    let rest = drop (1 + length bs) begun in
    ap₂ take p.past (p.written ∙ ap (λ (xs : List ℕ). xs ++ bs ++ rest) first) ∙ take_at (kind ∷ bs) rest (1 + length bs) (omega arith)

-- ---- the kind of a line

pub kind_told : (line : List ℕ) → kind_numbered (byte_at (sound_body line (longest_body line_words)) 0) ≡ line_kind_of line
kind_told line =
    let most = longest_body line_words in
    sym (by_body kind_in line most refl (λ bs l. stopped _ 22 _ (lt-leb (length bs) most l))
    ∙ passed _ 22 _ (le-leb (length (sound_body line most)) most (sound_short line most)))

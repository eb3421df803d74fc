-- Writing to a lent buffer: a text byte by byte at its front, and the three ways in which a writer ends.
use mathlib.Core.List.{List, [], ◌∷◌, ◌++◌, append_assoc}
use mathlib.Core.Path.{◌≡◌, ap, ◌∙◌}
use Prim.Native.Nat.{ℕ, suc, ◌≤◌, ◌<◌}
use native.Mathlib.Numerals.{add-one}
use native.Mathlib.Omega.{arith}
use lib.ListN.{drop, length, set, length-append, length-drop}
use lib.Seq.{drop-cons, set-append_seam}
use borrow.Author.Tests.{le-leb, lt-leb}
use Rattle.common.specs.Answer.{Answer, granted, refused_by}
use Rattle.common.specs.Buffer.{WrittenTo, buffer_of, length_of, overlay}
use Rattle.std.specs.Prelude.{Ok, Err}
use Rattle.common.specs.declared.errno.Errno.{Errno}
use Rattle.common.specs.declared.errno.Errno.TheVariants.{TooBig}

-- a byte is stored just past the text
pub overlay_step : (text out : List ℕ) (v : ℕ) → length text < length out → set (overlay text out) (length text) v ≡ overlay (text ++ (v ∷ [])) out
overlay_step text out v h =
    ap (λ (l : List ℕ). set (text ++ l) (length text) v) (drop-cons out (length text) 0 h)
    ∙ set-append_seam text _ (drop (suc (length text)) out) v
    ∙ simp (append_assoc, length-append, add-one)

pub overlay_length : (text out : List ℕ) → length text ≤ length out → length (overlay text out) ≡ length out
overlay_length text out h = simp (length-append, length-drop) (omega arith)

module _ (text : List ℕ) (x : Answer (List ℕ)) (before after : List ℕ) (e : x ≡ granted text) where
  pub writes : (n : ℕ) → n ≡ length text → length text ≤ length before → after ≡ overlay text before → WrittenTo (Ok n) x before after
  unfolding length_of buffer_of
  writes n h fits f =
      let t = le-leb (length text) (length before) fits in
      record { answer = rw (e, t, h); buffer = rw (e, t, f) }

  pub too_short : (n : ℕ) → n ≡ length text → length before < length text → after ≡ before → WrittenTo (Err (TooBig n)) x before after
  unfolding length_of buffer_of
  too_short n h short f =
      let t = lt-leb (length text) (length before) short in
      record { answer = rw (e, t, h); buffer = rw (e, t, f) }

pub writes_nothing : (r : Errno) (x : Answer (List ℕ)) (before after : List ℕ) → x ≡ refused_by r → after ≡ before → WrittenTo (Err r) x before after
unfolding length_of buffer_of
writes_nothing r x before after e f = record { answer = rw e; buffer = rw (e, f) }

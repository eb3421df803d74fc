-- A line that is written to the rest of a buffer.
use mathlib.Core.Bool.{true}
use mathlib.Core.List.{List, [], append_assoc, append-nil}
use mathlib.Core.Path.{◌≡◌, refl, sym, ap, ◌∙◌}
use Prim.Native.Nat.{ℕ, ◌+◌, ◌-◌, ◌≤◌}
use native.Mathlib.Nat.{add-zero}
use native.Mathlib.Omega.{arith}
use lib.Dec.{leb}
use lib.ListN.{drop, length, length-drop}
use lib.Seq.{drop-drop, take_all, drop-length}
use borrow.Author.Tests.{le-leb}
use borrow.Rule.Slice.PartMut.{mid_of, put_mid, put_same}
use Rattle.octets.specs.Internal.Put.{PutWithin}
use Rattle.octets.specs.Bytes.{put_at}
use Rattle.octets.proofs.ByteLaws.{put_nil}
use Rattle.hexline.specs.Line.{label_line_of}
use Rattle.hexline.proofs.KindLaws.{label_line_length}
use Rattle.label.specs.declared.Label.{Label}
use Rattle.common.specs.Answer.{Answer, answer_of, granted, refused, value_or}
use Rattle.common.specs.Buffer.{WrittenTo, buffer_of, length_of, overlay}
use Rattle.std.specs.Prelude.{Result, Ok, Err}
use Rattle.common.specs.declared.errno.Errno.{Errno}
use Rattle.segments_cmd.specs.Answer.{line_text}
use Rattle.segments_cmd.specs.Internal.Sizes.{hexline_bytes}

-- the line of a label is short
line_bytes_lem : (l : Label) → length (line_text l) ≤ hexline_bytes
line_bytes_lem l = pick (label_line_of l) refl
  where
    pick : (x : Answer (List ℕ)) → label_line_of l ≡ x → length (value_or [] x) ≤ hexline_bytes
    pick (granted line) e = let h = label_line_length l line e in omega arith
    pick (refused n detail) e = omega arith

module _ (out : List ℕ) (at : ℕ) (within : at ≤ length out) where
  part_is : mid_of at (length out - at) out ≡ drop at out
  part_is = let e = length-drop at out in take_all (length out - at) (drop at out) (omega arith)

  past_is : drop (length out - at) (drop at out) ≡ []
  past_is = let e = length-drop at out in rw (← e) (drop-length (drop at out))

  overlaid : (line : List ℕ) → put_mid at (length out - at) out (overlay line (drop at out)) ≡ put_at out at line
  unfolding put_at
  overlaid line = rw (past_is, append-nil, drop-drop, ← append_assoc)

  fits_in : (line : List ℕ) → at + length line ≤ length out → leb (length line) (length (mid_of at (length out - at) out)) ≡ true
  fits_in line h =
      let r : length (mid_of at (length out - at) out) ≡ length out - at = rw part_is (length-drop at out) in
      le-leb (length line) (length (mid_of at (length out - at) out)) (omega arith)

  -- a line that fits is written, and no line is not
  part_length : (x : Answer (List ℕ)) → at + length (value_or [] x) ≤ length out → value_or 0 (length_of x (length (mid_of at (length out - at) out))) ≡ length (value_or [] x)
  unfolding length_of
  part_length (granted line) h = rw (fits_in line h)
  part_length (refused n detail) h = refl

  part_put : (x : Answer (List ℕ)) → at + length (value_or [] x) ≤ length out → put_mid at (length out - at) out (buffer_of x (mid_of at (length out - at) out)) ≡ put_at out at (value_or [] x)
  unfolding buffer_of
  part_put (granted line) h = rw (fits_in line h, part_is) (overlaid line)
  part_put (refused n detail) h = put_same at (length out - at) out ∙ sym (put_nil out at)

module _ (out : List ℕ) (at : ℕ) (l : Label) (room : at + hexline_bytes ≤ length out) (w : Result ℕ Errno) (ys : List ℕ) (e : WrittenTo w (label_line_of l) (mid_of at (length out - at) out) ys) where
  written_length : value_or 0 (answer_of w) ≡ length (line_text l)
  written_length = let b = line_bytes_lem l in ap (value_or 0) e.answer ∙ part_length out at (omega arith) (label_line_of l) (omega arith)

  pub written_bytes : value_or 0 (answer_of w) ≤ hexline_bytes
  written_bytes = rw written_length (line_bytes_lem l)

  line_put : (n : ℕ) → value_or 0 (answer_of w) ≡ n → PutWithin (at + hexline_bytes) out at (line_text l) (at + n) (put_mid at (length out - at) out ys)
  line_put n h =
      let b = line_bytes_lem l in
      let k = written_length in
      record {
        put = record { past = omega arith; written = ap (put_mid at (length out - at) out) e.buffer ∙ part_put out at (omega arith) (label_line_of l) (omega arith) };
        within = omega arith;
      }

  pub line_written : (n : ℕ) → w ≡ Ok n → PutWithin (at + hexline_bytes) out at (line_text l) (at + n) (put_mid at (length out - at) out ys)
  line_written n h = line_put n (rw h)

  pub line_left : (q : Errno) → w ≡ Err q → PutWithin (at + hexline_bytes) out at (line_text l) at (put_mid at (length out - at) out ys)
  line_left q h = rw (add-zero) at (line_put 0 (rw h))

-- What the proofs of the operator's code need of their answers.
use mathlib.Core.Bool.{Bool, true, false, cond}
use mathlib.Core.Path.{◌≡◌, refl}
use Rattle.std.specs.Prelude.{Result, Ok, Err}
use Rattle.common.specs.Answer.{Answer, refused_by}
use Rattle.common.specs.declared.errno.Errno.{Errno}
use Rattle.segment_table.specs.Internal.TableParts.{Left}
use Rattle.segment_table.specs.Replies.{Grant, leaving}
use Rattle.segment_table.specs.declared.SegmentTable.{SegmentTable}

-- a refusal leaves the state as it was
pub refused_so : (s next : SegmentTable) (x : Answer Grant) (e : Errno) → x ≡ refused_by e → Left s (Err e) (leaving s next x)
refused_so s next x e h = rw h (record { table = refl; answer = refl })

-- a check that was passed
pub check_passed : (b : Bool) (e : Errno) {u : Unit {0}} → Ok u ≡ cond b (Ok tt) (Err e) → b ≡ true
check_passed true e h = refl
check_passed false e h = cc

-- a part that answers what the whole does
pub results_same : (u s next : SegmentTable) (r : Result Grant Errno) {x y : Answer Grant} → x ≡ y → Left u r (leaving s next y) → Left u r (leaving s next x)
results_same u s next r e h = rw e h

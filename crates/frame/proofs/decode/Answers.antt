-- Three ways decode nothing (`no_bytes`, `no_room`, `no_spelling`); in the last two the body is at the front of the buffer, and the sum says whether
-- it counts.
use Rattle.std.proofs.Common.{not, ap, arith}
use Rattle.frame.proofs.FrameLoops.{decoded_framed, decoded_unframed, no_bytes, no_room, no_spelling}
use Rattle.frame.proofs.decode.Goals as goal

pub returns-in_default-clause-value : goal.returns-in_default-clause-value
returns-in_default-clause-value c = let e = c.in_default.ensures in (no_bytes _ c.args.out.now (omega arith)).0

pub returns-in_default-clause-out_after : goal.returns-in_default-clause-out_after
returns-in_default-clause-out_after c = let e = c.in_default.ensures in (no_bytes _ c.args.out.now (omega arith)).1

pub returns-then-out-n-clause-value : goal.returns-then-out-n-clause-value
returns-then-out-n-clause-value c = let e = c.in-Some.ensures in (no_room _ c.args.out.now {n = c.in-Some.n} (omega arith) c.if-out-n.true).0

pub returns-then-out-n-clause-out_after : goal.returns-then-out-n-clause-out_after
returns-then-out-n-clause-out_after c = let e = c.in-Some.ensures in (no_room _ c.args.out.now {n = c.in-Some.n} (omega arith) c.if-out-n.true).1

pub returns-then-not-spelled-clause-value : goal.returns-then-not-spelled-clause-value
returns-then-not-spelled-clause-value c = (no_spelling _ c.args.out.now c.spelled.ensures (ap not c.if-not-spelled.true)).0

pub returns-then-not-spelled-clause-out_after : goal.returns-then-not-spelled-clause-out_after
returns-then-not-spelled-clause-out_after c = (no_spelling _ c.args.out.now c.spelled.ensures (ap not c.if-not-spelled.true)).1

pub returns-then-decode_spelled-clause-value : goal.returns-then-decode_spelled-clause-value
returns-then-decode_spelled-clause-value c =
    let e = c.in-Some.ensures in
    let d = c.decode_spelled.ensures in
    (decoded_framed _ c.args.out.now (omega arith) c.if-out-n.false c.spelled.ensures (ap not c.if-not-spelled.false) d.out_after d.value c.if-decode_spelled.true).0

pub returns-then-decode_spelled-clause-out_after : goal.returns-then-decode_spelled-clause-out_after
returns-then-decode_spelled-clause-out_after c =
    let e = c.in-Some.ensures in
    let d = c.decode_spelled.ensures in
    (decoded_framed _ c.args.out.now (omega arith) c.if-out-n.false c.spelled.ensures (ap not c.if-not-spelled.false) d.out_after d.value c.if-decode_spelled.true).1

pub returns-else-decode_spelled-clause-value : goal.returns-else-decode_spelled-clause-value
returns-else-decode_spelled-clause-value c =
    let e = c.in-Some.ensures in
    let d = c.decode_spelled.ensures in
    (decoded_unframed _ c.args.out.now (omega arith) c.if-out-n.false c.spelled.ensures (ap not c.if-not-spelled.false) d.out_after d.value c.if-decode_spelled.false).0

pub returns-else-decode_spelled-clause-out_after : goal.returns-else-decode_spelled-clause-out_after
returns-else-decode_spelled-clause-out_after c =
    let e = c.in-Some.ensures in
    let d = c.decode_spelled.ensures in
    (decoded_unframed _ c.args.out.now (omega arith) c.if-out-n.false c.spelled.ensures (ap not c.if-not-spelled.false) d.out_after d.value c.if-decode_spelled.false).1

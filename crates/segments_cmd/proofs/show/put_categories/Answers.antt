use Rattle.std.proofs.Common.{◌≡◌, [], length, rules, arith}
use Rattle.octets.specs.Internal.Put.{Put}
use Rattle.label.specs.Words.{members_of}
use Rattle.octets.proofs.ByteLaws.{appended_put, then_put}
use Rattle.segments_cmd.specs.Show.{list_text}
use Rattle.segments_cmd.proofs.CategoryLaws.{none_listed, some_listed}
use Rattle.segments_cmd.proofs.show.put_categories.Goals as goal

pub returns-then-end-at : goal.returns-then-end-at
returns-then-end-at c =
    let m = c.put_members-end in
    let i = m.ensures.put.past in
    let n = none_listed (members_of c.args.categories) (omega arith) in
    let q = appended_put (search rules) c.append.ensures in
    let e = q.past in
    let p : Put c.args.out.now c.args.at [] m.result m.new.out = rw n.1 at m.ensures.put in
    record { put = rw n.0 (then_put (omega arith) p (rw (← c.if-end-at.true) at q)); within = omega arith }

pub returns : goal.returns
returns c =
    let m = c.put_members-end in
    let i = m.ensures.put.past in
    let n = some_listed (members_of c.args.categories) (λ (e : length (list_text (members_of c.args.categories)) ≡ 0). c.if-end-at.false (omega arith)) in
    record { put = rw n m.ensures.put; within = search rules }

use Rattle.std.proofs.Common.{refl}
use Rattle.console.proofs.LineLaws.{taken_bad, taken_long, taken_more, taken_whole}
use Rattle.console.proofs.lines.take.Goals as goal

pub returns-then-n-rest : goal.returns-then-n-rest
returns-then-n-rest c =
    let a = rw (c.front.ensures) at c.append-length.ensures in
    taken_whole c.rest-rest.ensures c.index_of-n.ensures.index c.in-Some.ensures a c.if-n-rest.true refl c.start.ensures

pub returns-else-n-rest : goal.returns-else-n-rest
returns-else-n-rest c =
    let a = rw (c.front.ensures) at c.append-length.ensures in
    taken_more c.rest-rest.ensures c.index_of-n.ensures.index c.in-Some.ensures a c.if-n-rest.false refl

pub returns-then-n-rest-2 : goal.returns-then-n-rest-2
returns-then-n-rest-2 c =
    taken_bad c.rest-rest.ensures c.index_of-n.ensures.index c.in-None.ensures c.if-n-rest-2.true refl c.start-then-n-rest-2.ensures

pub returns-else-n-rest-2 : goal.returns-else-n-rest-2
returns-else-n-rest-2 c = taken_long c.rest-rest.ensures c.index_of-n.ensures.index c.in-None.ensures c.if-n-rest-2.false refl

use Rattle.std.proofs.Common.{rules}
use Rattle.octets.proofs.ByteLaws.{put_appended}
use Rattle.segments_cmd.proofs.answer.put_grant.Goals as goal

pub returns-in-Opened : goal.returns-in-Opened
returns-in-Opened c =
    let e = c.put_place.ensures in
    let i = e.put.past in rw c.in-Opened.is (put_appended (search rules) e.put)

pub returns-in-Shown : goal.returns-in-Shown
returns-in-Shown c =
    let e = c.put_shown.ensures in
    let i = e.put.past in rw c.in-Shown.is (put_appended (search rules) e.put)

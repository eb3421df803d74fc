use native.Mathlib.Omega.{arith}
use Rattle.octets.proofs.ByteLaws.{appended_put, then_appended}
use Rattle.alias_entry.proofs.bytes.put_text.Goals as goal

pub returns : goal.returns
returns c =
    let r = c.requires.2 in
    let b = appended_put (omega arith) c.append_byte-next.ensures in
    let k = b.past in
    then_appended (omega (arith, c.requires.2)) b (rw c.front.ensures at c.append.ensures)

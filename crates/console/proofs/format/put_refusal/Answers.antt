use Rattle.std.proofs.Common.{◌≡◌, ◌+◌, arith}
use Rattle.octets.proofs.ByteLaws.{appended_put, then_appended, then_put}
use Rattle.console.specs.Format.{error_word, refusal_text}
use Rattle.console.proofs.FormatLaws.{refusal_length}
use Rattle.console.proofs.format.put_refusal.Goals as goal

pub put_decimal-digits-requires : goal.put_decimal-digits-requires
put_decimal-digits-requires c =
    let a = c.args in
    let l = refusal_length a.number a.carried in
    let p = appended_put (omega arith) c.append-word.ensures in
    let i : c.append-word.result ≡ a.at + 6 = p.past in omega arith

pub put_carried-end-requires : goal.put_carried-end-requires
put_carried-end-requires c =
    let a = c.args in
    let l = refusal_length a.number a.carried in
    let p = appended_put (omega arith) c.append-word.ensures in
    let i : c.append-word.result ≡ a.at + 6 = p.past in omega arith

pub returns : goal.returns
unfolding refusal_text error_word
returns c =
    let a = c.args in
    let l = refusal_length a.number a.carried in
    let h = c.requires in
    let word = appended_put (omega arith) c.append-word.ensures in
    let i : c.append-word.result ≡ a.at + 6 = word.past in
    let digits = then_put (omega arith) word c.put_decimal-digits.ensures in
    let carried = then_put (omega arith) digits c.put_carried-end.ensures in then_appended (omega arith) carried c.append.ensures

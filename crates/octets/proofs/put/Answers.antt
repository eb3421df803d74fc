use Rattle.std.proofs.Common.{◌∙◌, refl, arith}
use Rattle.std.proofs.lemmas.Slice.{put_mid-paste}
use Rattle.octets.proofs.ByteLaws.{put_all}
use Rattle.octets.proofs.put.Goals as goal

pub returns : goal.returns
returns c =
    let a = c.args in
    record {
      past = refl;
      written = put_mid-paste _ _ _ _ a.xs.now _ c.copy_from_slice.ensures.after (omega arith) refl ∙ put_all a.out.now a.at a.xs.now;
    }

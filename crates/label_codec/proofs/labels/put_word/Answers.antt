-- The bytes that are copied are those of the word, however it is put.
use Rattle.std.proofs.Common.{◌≡◌, arith}
use Rattle.std.proofs.lemmas.Grind.{common_steps}
use Rattle.std.specs.Int.{to_le_bytes, w64}
use Rattle.label_codec.proofs.BodyLoops.{word_put}
use Rattle.label_codec.proofs.labels.put_word.Goals as goal

pub returns : goal.returns
returns c =
    let of_word : c.to_le_bytes.result ≡ to_le_bytes w64 c.args.w = grind (arith, common_steps, c.to_le_bytes.ensures) in
    word_put _ _ _ c.requires of_word c.copy_from_slice.ensures.after

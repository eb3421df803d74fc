-- There is room for both ends, and each fits its bytes.
use Rattle.common.proofs.BoolLaws.{first_true, second_true}
use Rattle.octets.proofs.ByteLaws.{both_put, first_fits, second_fits}
use Rattle.label_codec.specs.Body.{label_bytes, range_bytes}
use Rattle.label_codec.specs.Codec.{label_fits}
use Rattle.label_codec.proofs.labels.RangeCoded.put.Goals as goal

pub put-next-requires : goal.put-next-requires
unfolding range_bytes
put-next-requires c =
    let x = c.args.self.now in
    let w = c.args.width.words in
    (first_fits c.args.at _ (label_bytes w x.low) (label_bytes w x.high) c.requires.0, first_true (label_fits x.low) (label_fits x.high) c.requires.1)

pub put-requires : goal.put-requires
unfolding range_bytes
put-requires c =
    let x = c.args.self.now in
    (second_fits c.put-next.ensures (label_bytes c.args.width.words x.high) c.requires.0, second_true (label_fits x.low) (label_fits x.high) c.requires.1)

pub returns : goal.returns
unfolding range_bytes
returns c = both_put c.put-next.ensures _ c.requires.0 c.put.ensures

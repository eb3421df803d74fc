-- The entry is made of the bytes past the index, by its layout there; an entry is the same where its bytes are (`same_entry`).
use lib.ListN.{drop}
use Rattle.label_codec.specs.Codec.{width}
use Rattle.alias_entry.specs.Entry.{entry_from}
use Rattle.label_codec.proofs.BodyLoops.{rest_same}
use Rattle.alias_entry.proofs.EntryLaws.{same_entry}
use Rattle.alias_entry.proofs.bytes.entry_at.Goals as goal

pub returns : goal.returns
unfolding entry_from
returns c =
    let w = width c.args.words in
    let bs = c.args.bytes.now in
    rw (c.value_from.ensures, c.from.ensures, c.from-2.ensures, c.label_from.ensures, c.byte.ensures, c.read_text.ensures, c.read_text-2.ensures, c.layout_from-p.ensures.value, c.rest-own.ensures)
    (same_entry w (drop c.args.at bs) bs 0 c.args.at (rest_same bs c.args.at))

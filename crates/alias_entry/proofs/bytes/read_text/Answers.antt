use Rattle.alias_entry.proofs.EntryLaws.{text_read}
use Rattle.alias_entry.proofs.bytes.read_text.Goals as goal

pub returns : goal.returns
returns g c = let s = c.args.s in text_read g.row.N c.args.bytes.now s.at s.length c.bytes.ensures c.front-text.ensures c.copy_from_slice.ensures.after

use Rattle.octets.proofs.ByteLaws.{appended_put, both_put, first_fits, second_fits}
use Rattle.alias.specs.Lines.{table_entries}
use Rattle.text.specs.Write.{label_text}
use Rattle.text.proofs.write.Writer.put_marked.Goals as goal

pub put_label-requires : goal.put_label-requires
put_label-requires c =
    let a = c.args in
    let text = label_text (table_entries a.self.now.table) a.self.now.style a.l in
    second_fits (appended_put (first_fits _ _ a.marker.now text c.requires) c.append-past.ensures) text c.requires

pub returns : goal.returns
returns c =
    let a = c.args in
    let text = label_text (table_entries a.self.now.table) a.self.now.style a.l in
    both_put (appended_put (first_fits _ _ a.marker.now text c.requires) c.append-past.ensures) text c.requires c.put_label.ensures

use Rattle.label.specs.Words.{members_of}
use Rattle.octets.proofs.ByteLaws.{both_put}
use Rattle.alias.specs.Lines.{table_entries}
use Rattle.text.specs.Write.{categories_text, colon, definition_text}
use Rattle.text.proofs.write.Writer.put_definition.Goals as goal

pub returns : goal.returns
unfolding definition_text
returns c =
    let a = c.args in
    both_put (rw c.zero.ensures at c.put_name-past.ensures) (categories_text (table_entries a.self.now.table) a.self.now.style.variant colon (members_of a.l.categories)) c.requires c.put_categories.ensures

use borrow.Author.Rules.{rules}
use native.Mathlib.Omega.{arith}
use Rattle.label_codec.specs.Body.{line_words}
use Rattle.hexline.specs.Line.{entry_body}
use Rattle.hexline.proofs.EntryKindLaws.{entry_length}
use Rattle.hexline.proofs.contents.EntryContentsENTRY_BODY.append.Goals as goal

-- the arrays of an entry's texts are full
pub returns-clause-short : goal.returns-clause-short
unfolding entry_body
returns-clause-short c = omega (arith, entry_length 4 line_words c.args.self (search rules) (search rules) c.requires)

-- Which bodies are those of accepted lines of kind 04.
use Rattle.std.specs.Prelude.{Bool, ◌&&◌, List, ℕ}
use Rattle.label_codec.specs.Body.{line_words}
use Rattle.alias_entry.specs.Entry
use Rattle.hexline.specs.Line.{entry_form, entry_in}

-- the body of an accepted line of kind 04
abbrev pub accepted_body : List ℕ → Bool
accepted_body bs = entry_form 4 line_words bs && Entry.valid_of (entry_in line_words bs)

-- The answers of calls as text.
use Rattle.std.specs.Prelude.{List, [], ◌++◌, ℕ, Result, Ok, Err}
use Rattle.octets.specs.Bytes.{ascii}
use Rattle.console.specs.Format.{error_text, field}
use Rattle.hexline.specs.Line.{label_line_of}
use Rattle.common.specs.Answer.{value_or}
use Rattle.common.specs.declared.errno.Errno.{Errno}
use Rattle.label.specs.declared.Label.{Label}
use Rattle.segment_table.specs.declared.Reply.{Reply}
use Rattle.segment_table.specs.declared.Reply.TheVariants.{Done, Opened, Shown}
use Rattle.segment_table.specs.declared.Segment.{Segment}
use Rattle.segment_table.specs.declared.Slot.{Slot}

unfoldable pub place_text : Slot → List ℕ
place_text p = field (ascii "place ") p.0 ++ ascii "\n"

-- the first line of what a look shows
unfoldable pub shown_numbers : Segment → List ℕ
shown_numbers x = field (ascii "shown ") x.pages ++ field (ascii " ") x.version ++ ascii "\n"

-- a label that has no line, which no sound state holds, adds none
abbrev pub line_text : Label → List ℕ
line_text l = value_or [] (label_line_of l)

unfoldable pub shown_text : Segment → List ℕ
shown_text x = shown_numbers x ++ line_text x.label

-- what is printed of a grant
abbrev pub grant_text : Reply → List ℕ
grant_text Done = ascii "ok\n"
grant_text (Opened p) = place_text p
grant_text (Shown x) = shown_text x

-- what an answer prints
abbrev pub answer_text : Result Reply Errno → List ℕ
answer_text (Ok reply) = grant_text reply
answer_text (Err e) = error_text e

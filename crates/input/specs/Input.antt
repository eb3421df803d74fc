-- Lines of an input: one step at a time, and one line at a time.
use Rattle.std.specs.Prelude.{Bool, true, false, ◌&&◌, cond, List, ◌≡◌, ℕ, zero, suc, ◌-◌, ◌≤◌, ◌<◌, eqb, ltb, drop, length, take, Option, None, Some}
use Rattle.std.specs.Io.KnownBytes.{Appends}
use Rattle.console.specs.Lines.{piece_buffer, line_at_end, piece_of}
use Rattle.console.specs.declared.lines.Line.{Line}
use Rattle.console.specs.declared.lines.Line.TheVariants.{More, Whole, Bad}
use Rattle.console.specs.declared.lines.Partial.{Partial}
use Rattle.console.specs.declared.lines.Partial.TheVariants.{Held}
use Rattle.console.specs.declared.lines.Piece.{Piece}
use Rattle.input.specs.declared.LineOrEnd.{LineOrEnd}
use Rattle.input.specs.declared.Input.{Input}
use Rattle.input.specs.declared.Input.TheVariants.{Open, Ended, Failed}
use Rattle.input.specs.declared.Lines.{Lines}
use Rattle.input.specs.declared.Turn.{Turn}

-- nothing is held and nothing is left to take
abbrev pub start_input : Input
start_input = Open (Held 0) 0 0

-- whether bytes of the chunk, which has size bytes, are left to take from index at up to index filled
abbrev pub some_left : ℕ → ℕ → ℕ → Bool
some_left at filled size = ltb at filled && ltb at size

-- the bytes of the chunk that are left to take
unfoldable pub chunk_rest : ℕ → ℕ → List ℕ → List ℕ
chunk_rest at filled chunk = drop at (take filled chunk)

-- the step that a piece of the chunk makes
abbrev pub of_piece : ℕ → Piece → Turn
of_piece filled p = record { input = Open p.partial p.next filled; line = p.line }

-- the step at the end of the input, or where a read failed, with p held of a line: a line with no LF is bad
abbrev pub at_end : Input → Partial → Turn
at_end i p = record { input = i; line = line_at_end p }

-- the step that fills the first n bytes of the chunk
abbrev pub filled_by : Partial → ℕ → Turn
filled_by p n = record { input = Open p 0 n; line = More }

-- the step that a read makes: of n bytes, of which none are the end, or one that failed
unfoldable pub turn_after_read : Partial → Option ℕ → Turn
turn_after_read p (Some n) = cond (eqb n 0) (at_end Ended p) (filled_by p n)
turn_after_read p None = at_end Failed p

-- r and the buffer `after` are what `lines::take` makes of the bytes that are left. The last two follow, and are stated for callers
pub record Pieced (p : Partial) (at filled : ℕ) (chunk line : List ℕ) (r : Turn) (after : List ℕ) : Type 0 where
  pub turn_is : r ≡ of_piece filled (piece_of (chunk_rest at filled chunk) at (length line) p)
  pub line_is : after ≡ piece_buffer (chunk_rest at filled chunk) line p
  pub same_length : length after ≡ length line
  pub whole : (n : ℕ) → r.line ≡ Whole n → n ≤ length after

-- r is what one read makes. How many bytes came is open, but for that the chunk, which has size bytes, has room for them; so is whether it failed
pub record Refilled (p : Partial) (size : ℕ) (r : Turn) : Type 0 where
  pub count : Option ℕ
  pub within : (n : ℕ) → count ≡ Some n → n ≤ size
  pub turn_is : r ≡ turn_after_read p count

-- r and the two buffers are what a step makes with bytes of the chunk left to take, or none: a piece of the chunk is taken, or the chunk is read into,
-- and of its bytes then nothing is said
unfoldable pub Advanced : Bool → Partial → ℕ → ℕ → List ℕ → List ℕ → Turn → List ℕ → List ℕ → Type 0
Advanced true p at filled chunk line r chunk_then line_then = Pieced p at filled chunk line r line_then × (chunk_then ≡ chunk)
Advanced false p at filled chunk line r chunk_then line_then = Refilled p (length chunk) r × (line_then ≡ line)

-- where the input stands before a step
abbrev pub before_step : Input → Turn
before_step i = record { input = i; line = More }

-- nothing is done
abbrev pub Kept : Input → List ℕ → List ℕ → Turn → List ℕ → List ℕ → Type 0
Kept i chunk line r chunk_then line_then = (r ≡ before_step i) × (chunk_then ≡ chunk) × (line_then ≡ line)

-- what a step does: at the end nothing
unfoldable pub Done : Input → List ℕ → List ℕ → Turn → List ℕ → List ℕ → Type 0
Done (Open p at filled) chunk line r chunk_then line_then = Advanced (some_left at filled (length chunk)) p at filled chunk line r chunk_then line_then
Done Ended chunk line r chunk_then line_then = Kept Ended chunk line r chunk_then line_then
Done Failed chunk line r chunk_then line_then = Kept Failed chunk line r chunk_then line_then

-- r and the two buffers are what a step makes. The last three follow, and are stated for callers
pub record Stepped (i : Input) (chunk line : List ℕ) (r : Turn) (chunk_then line_then : List ℕ) : Type 0 where
  pub done : Done i chunk line r chunk_then line_then
  pub same_chunk_length : length chunk_then ≡ length chunk
  pub same_line_length : length line_then ≡ length line
  pub whole : (n : ℕ) → r.line ≡ Whole n → n ≤ length line_then

-- ---- lines

-- more steps, and lines, than any input has
abbrev pub most_lines : ℕ
most_lines = 18446744073709551615

-- whether a step is to be followed by another: it made no line and did not find the end
abbrev pub waits_by : Line → Input → Bool
waits_by More (Open p at filled) = true
waits_by More Ended = false
waits_by More Failed = false
waits_by (Whole n) i = false
waits_by Bad i = false

abbrev pub waits_of : Turn → Bool
waits_of t = waits_by t.line t.input

-- one step more, after steps that made a turn and buffers of which P holds
pub record StepMore (P : Turn → List ℕ → List ℕ → Type 0) (t : Turn) (chunk_then line_then : List ℕ) : Type 0 where
  pub turn : Turn
  pub chunk : List ℕ
  pub line : List ℕ
  pub before : P turn chunk line
  pub waiting : waits_of turn ≡ true
  pub step : Stepped turn.input chunk line t chunk_then line_then

-- t and the buffers are what n steps make, none of which is taken after a line was made or the end was found
unfoldable pub Steps : ℕ → Input → List ℕ → List ℕ → Turn → List ℕ → List ℕ → Type 0
Steps zero i chunk line t chunk_then line_then = Kept i chunk line t chunk_then line_then
Steps (suc n) i chunk line t chunk_then line_then = StepMore (Steps n i chunk line) t chunk_then line_then

-- t and the buffers are what steps make, until there is a line or the end, unless there were too many of them. The last three follow, and are stated
-- for callers
pub record Waited (i : Input) (chunk line : List ℕ) (t : Turn) (chunk_then line_then : List ℕ) : Type 0 where
  pub count : ℕ
  pub steps : Steps count i chunk line t chunk_then line_then
  pub done : count < most_lines → waits_of t ≡ false
  pub same_chunk_length : length chunk_then ≡ length chunk
  pub same_line_length : length line_then ≡ length line
  pub whole : (n : ℕ) → t.line ≡ Whole n → n ≤ length line_then

-- the line that a step made: a bad line has no bytes
abbrev pub found_of : Line → Option ℕ
found_of More = None
found_of (Whole n) = Some n
found_of Bad = Some 0

-- r and the two buffers are what the next line makes: where the input is at its end nothing is read. All but the first two follow, and are stated for
-- callers
pub record FoundNext (i : Input) (chunk line : List ℕ) (r : LineOrEnd) (chunk_then line_then : List ℕ) : Type 0 where
  pub turn : Turn
  pub waited : Waited i chunk line turn chunk_then line_then
  pub found_is : r ≡ record { input = turn.input; line = found_of turn.line }
  pub over : waits_of (before_step i) ≡ false → (r ≡ record { input = i; line = None }) × (chunk_then ≡ chunk) × (line_then ≡ line)
  pub same_chunk_length : length chunk_then ≡ length chunk
  pub same_line_length : length line_then ≡ length line
  pub within : (n : ℕ) → r.line ≡ Some n → n ≤ length line_then

-- no line is at hand yet
abbrev pub start_lines : Lines
start_lines = record { input = start_input; line = None; left = most_lines }

-- no line is at hand, and none may come
abbrev pub no_more : Input → Lines
no_more i = record { input = i; line = None; left = 0 }

-- the lines after one was found, or none, where so many may still come with it
abbrev pub lines_by : ℕ → Input → Option ℕ → Lines
lines_by left i (Some n) = cond (ltb 0 left) (record { input = i; line = Some n; left = left }) (no_more i)
lines_by left i None = no_more i

abbrev pub lines_after : ℕ → LineOrEnd → Lines
lines_after left f = lines_by left f.input f.line

-- r and the two buffers are what is found next, where lines may still come
pub record LineFound (l : Lines) (chunk line : List ℕ) (r : Lines) (chunk_then line_then : List ℕ) : Type 0 where
  pub found : LineOrEnd
  pub next : FoundNext l.input chunk line found chunk_then line_then
  pub lines_is : r ≡ lines_after (l.left - 1) found

-- r and the two buffers are what the next line makes: where none is left, or the input is at its end, nothing is read. All but the first two follow, and
-- are stated for callers and for the measure of a loop
pub record NextLine (l : Lines) (chunk line : List ℕ) (r : Lines) (chunk_then line_then : List ℕ) : Type 0 where
  pub over : eqb l.left 0 ≡ true → (r ≡ no_more l.input) × (chunk_then ≡ chunk) × (line_then ≡ line)
  pub found : eqb l.left 0 ≡ false → LineFound l chunk line r chunk_then line_then
  pub ended : waits_of (before_step l.input) ≡ false → (r ≡ no_more l.input) × (chunk_then ≡ chunk) × (line_then ≡ line)
  pub same_chunk_length : length chunk_then ≡ length chunk
  pub same_line_length : length line_then ≡ length line
  pub within : (n : ℕ) → r.line ≡ Some n → n ≤ length line_then
  pub at_hand : (n : ℕ) → r.line ≡ Some n → 0 < r.left
  pub fewer : r.left ≤ l.left - 1

-- ---- lines that are handed on

-- whether a read failed
abbrev pub failed_of : Input → Bool
failed_of (Open p at filled) = false
failed_of Ended = false
failed_of Failed = true

-- one line more is handed on, by a call that makes a state of F of another, after lines that left a state, an input and buffers of which P holds
pub record LineMore {F : Type 0} (call : F → List ℕ → F → Type 0) (P : F → Input → List ℕ → List ℕ → Type 0) (state : F) (i : Input) (chunk_then line_then : List ℕ) : Type 0 where
  pub state_before : F
  pub input : Input
  pub chunk : List ℕ
  pub line : List ℕ
  pub before : P state_before input chunk line
  pub length : ℕ
  pub found : FoundNext input chunk line (record { input = i; line = Some length }) chunk_then line_then
  pub called : call state_before (take length line_then) state

-- the state, the input and the buffers are what n lines make, each of them handed on in its turn
unfoldable pub Fed : {F : Type 0} → (F → List ℕ → F → Type 0) → F → List ℕ → List ℕ → ℕ → F → Input → List ℕ → List ℕ → Type 0
Fed call first chunk line zero state i chunk_then line_then = (state ≡ first) × (i ≡ start_input) × (chunk_then ≡ chunk) × (line_then ≡ line)
Fed call first chunk line (suc n) state i chunk_then line_then = LineMore call (Fed call first chunk line n) state i chunk_then line_then

-- the input at `end` and the buffers are what the next line makes, where there is none; and r says whether a read failed
pub record NoneLeft (i : Input) (chunk line : List ℕ) (r : Bool) (chunk_then line_then : List ℕ) : Type 0 where
  pub end : Input
  pub found : FoundNext i chunk line (record { input = end; line = None }) chunk_then line_then
  pub failed : r ≡ failed_of end

-- r and the two buffers are what is left when each line was handed on, beginning with the state `first`, unless there were too many of them
pub record AllFed {F : Type 0} (call : F → List ℕ → F → Type 0) (first : F) (chunk line : List ℕ) (r : Bool) (chunk_then line_then : List ℕ) : Type 0 where
  pub count : ℕ
  pub last : F
  pub input : Input
  pub chunk_last : List ℕ
  pub line_last : List ℕ
  pub fed : Fed call first chunk line count last input chunk_last line_last
  pub over : count < most_lines → NoneLeft input chunk_last line_last r chunk_then line_then

-- ---- answers

-- where r is true, a writer of which `contents` says what it holds has bs behind what it had, where that is known: a writer of the standard output
-- does not say it
abbrev pub Written : {W : Type 0} → (W → Option (List ℕ)) → W → List ℕ → Bool → W → Type 0
Written contents before bs r after = r ≡ true → Appends (contents before) (contents after) bs

-- The laws of the alias entry that stands in a line: of an accepted line it is the entry that is read, and its name and abbreviation are
-- bytes of the line's body. Also what the texts of a valid entry are.
use mathlib.Core.Bool.{true}
use mathlib.Core.List.{List}
use mathlib.Core.Path.{◌≡◌, sym, ◌∙◌}
use Prim.Native.Nat.{ℕ, ◌+◌, ◌≤◌, ◌<◌, min}
use native.Mathlib.Omega.{arith}
use lib.ListN.{get_or, length, take, length-take}
use lib.Seq.{ext_get_or, get_or-take}
use Rattle.common.specs.Answer.{granted, is_granted}
use Rattle.common.specs.Index.{tabulate}
use Rattle.common.proofs.IndexLaws.{tabulate_at, tabulate_length}
use Rattle.frame.specs.Frame.{body_of}
use Rattle.frame.proofs.FrameLaws.{body_small}
use Rattle.label_codec.specs.Body.{byte_at, line_words}
use Rattle.alias_entry.specs.Entry
use Rattle.alias_entry.specs.Entry.{TypedEntry, abbreviation_bytes, abbreviation_size, at_most, entry_from, is_name_byte, layout_of, name_bytes, name_of, name_size, text_byte, text_from}
use Rattle.alias_entry.specs.Internal.Spans.{span_bytes}
use Rattle.hexline.specs.Line.{abbreviation_in, entry_form, entry_in, name_in, read_entry_line, standing_in}
use Rattle.alias_entry.specs.declared.Entry.{Entry}
use Rattle.alias_entry.specs.declared.bytes.Span.{Span}
use Rattle.alias_entry.proofs.EntryLaws.{label_from_typed, name_byte, text_byte_lem, text_bytes_lem, valid_parts}
use Rattle.hexline.proofs.LineLaws.{read_contents, read_granted}

-- ---- of an accepted line, what stands there is what is read, and is valid

pub entry_standing : (line : List ℕ) (e : Entry) → read_entry_line line ≡ granted e → (standing_in line ≡ e) × (Entry.valid_of e ≡ true)
unfolding standing_in
entry_standing = read_granted (entry_form 4 line_words) (entry_in line_words) Entry.valid_of

pub standing_read : (line : List ℕ) → is_granted (read_entry_line line) ≡ true → read_entry_line line ≡ granted (standing_in line)
unfolding standing_in
standing_read = read_contents (entry_form 4 line_words) (entry_in line_words) Entry.valid_of

-- ---- the bytes at a span

pub span_length : (bs : List ℕ) (s : Span) → length (span_bytes bs s) ≡ s.length
unfolding span_bytes
span_length bs s = tabulate_length (λ k. byte_at bs (s.at + k)) s.length

pub span_at : (bs : List ℕ) (s : Span) (k : ℕ) → k < s.length → get_or (span_bytes bs s) k 0 ≡ byte_at bs (s.at + k)
unfolding span_bytes
span_at bs s k h = tabulate_at (λ k. byte_at bs (s.at + k)) s.length k 0 h

-- ---- in any line, the texts of what stands there are the bytes at their spans

pub text_stands : (most : ℕ) (bs : List ℕ) (s : Span) → take s.length (text_from most bs s.at s.length) ≡ span_bytes bs (at_most most s)
unfolding text_from
text_stands most bs s = ext_get_or 0 xs (span_bytes bs (at_most most s)) (size ∙ sym (span_length bs (at_most most s))) at_index
  where
    n : ℕ
    n = s.length

    f : ℕ → ℕ
    f = text_byte bs s.at n

    xs : List ℕ
    xs = take n (tabulate f most)

    size : length xs ≡ min n most
    size = let t = tabulate_length f most in let l = length-take n (tabulate f most) in omega arith

    at_index : (k : ℕ) → k < length xs → get_or xs k 0 ≡ get_or (span_bytes bs (at_most most s)) k 0
    at_index k l =
        let e = size in
        get_or-take n (tabulate f most) k 0 (omega arith) ∙ tabulate_at f most k 0 (omega arith) ∙ text_byte_lem bs s.at n k (omega arith)
        ∙ sym (span_at bs (at_most most s) k (omega arith))

pub name_stands : (line : List ℕ) → name_bytes (standing_in line) ≡ span_bytes (body_of line) (name_in line)
unfolding standing_in name_in entry_from
name_stands line = text_stands name_size (body_of line) (layout_of line_words (body_of line) 1).name

pub abbreviation_stands : (line : List ℕ) → abbreviation_bytes (standing_in line) ≡ span_bytes (body_of line) (abbreviation_in line)
unfolding standing_in abbreviation_in entry_from
abbreviation_stands line = text_stands abbreviation_size (body_of line) (layout_of line_words (body_of line) 1).abbreviation

-- ---- in any line, what stands there has what its type says

pub name_length : (e : Entry) → TypedEntry e → length (name_bytes e) ≤ name_size
name_length e t = let n = t.name_has_size in let l = length-take e.name.length e.name.bytes in omega arith

pub standing_typed : (line : List ℕ) → TypedEntry (standing_in line)
unfolding standing_in entry_from text_from
standing_typed line =
    let bs = body_of line in
    let p = layout_of line_words bs 1 in
    let n = p.name in
    let a = p.abbreviation in
    record {
      label = label_from_typed line_words bs p.class 2 (body_small line);
      name_has_size = tabulate_length (text_byte bs n.at n.length) name_size;
      name_byte = text_bytes_lem bs n.at n.length name_size (body_small line);
      abbreviation_has_size = tabulate_length (text_byte bs a.at a.length) abbreviation_size;
      abbreviation_byte = text_bytes_lem bs a.at a.length abbreviation_size (body_small line);
    }

-- ---- the texts of a valid entry

-- each byte of a name, or of nothing, is a name byte
pub text_letters : (bs : List ℕ) (n : ℕ) → name_of bs n ≡ true → (k : ℕ) → k < length (take n bs) → is_name_byte (get_or (take n bs) k 0) ≡ true
text_letters bs n e k h =
    let l = length-take n bs in
    let i : k < n = omega arith in
    rw (get_or-take n bs k 0 i) (name_byte bs n e k i)

pub name_letters : (e : Entry) → Entry.valid_of e ≡ true → (k : ℕ) → k < length (name_bytes e) → is_name_byte (get_or (name_bytes e) k 0) ≡ true
name_letters e v = text_letters e.name.bytes e.name.length (valid_parts e v).name

pub abbreviation_letters : (e : Entry) → Entry.valid_of e ≡ true → (k : ℕ) → k < length (abbreviation_bytes e)
    → is_name_byte (get_or (abbreviation_bytes e) k 0) ≡ true
abbreviation_letters e v = text_letters e.abbreviation.bytes e.abbreviation.length (valid_parts e v).abbreviation

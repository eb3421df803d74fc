-- What the writing of labels and ranges needs of its definitions: the names of entries where they stand, the measures of texts, the names of
-- categories one after another, and how a writer that measures first ends.
use mathlib.Core.Bool.{Bool, true, false, cond}
use mathlib.Core.List.{List, [], ◌∷◌, append_assoc}
use Rattle.std.specs.Prelude.{Option, None, Some}
use mathlib.Core.Path.{◌≡◌, refl, sym, ◌∙◌}
use Prim.Native.Nat.{ℕ, suc, ◌+◌, ◌*◌, ◌-◌, ◌≤◌, ◌<◌}
use native.Mathlib.Omega.{arith}
use lib.Dec.{leb}
use lib.ListN.{drop, length, length-append}
use lib.Seq.{drop-append_seam, drop-length}
use Rattle.common.specs.Answer.{granted, require}
use Rattle.common.specs.Buffer.{length_of}
use Rattle.label.specs.Label.{zero_label}
use Rattle.label.specs.Words.{members_below, members_of, next_category_from, words}
use Rattle.label.specs.declared.Label.{Label}
use Rattle.label.proofs.ListingLaws.{all_listed, last_listed, members_front, next_listed, next_within}
use Rattle.common.proofs.SearchLaws.{last_holds}
use Rattle.octets.specs.Internal.Put.{Put}
use Rattle.octets.specs.Bytes.{put_at}
use Rattle.octets.proofs.ByteLaws.{put_nil, put_put, put_same_length}
use Rattle.frame.specs.Frame.{body_of}
use Rattle.alias_entry.specs.Entry.{name_size}
use Rattle.alias_entry.specs.Internal.Spans.{span_bytes}
use Rattle.hexline.specs.Line.{abbreviation_in, name_in, standing_in}
use Rattle.alias_entry.specs.declared.Entry.{Entry}
use Rattle.alias_entry.specs.declared.bytes.Span.{Span}
use Rattle.alias_entry.specs.declared.Value.{Value}
use Rattle.alias_entry.specs.declared.Value.TheVariants.{Category}
use Rattle.hexline.proofs.StandingLaws.{abbreviation_stands, name_stands, span_length}
use Rattle.octets.specs.Lines.{line_at}
use Rattle.alias.specs.Lines.{entries_by, entry_at, lines_by}
use Rattle.alias.specs.Lookup.{last_entry_for, stands_for}
use Rattle.alias.proofs.LookupLaws.{entries_at, entries_length}
use Rattle.text.specs.Internal.Measure.{MeasuredText, max_categories, room_of, written_in}
use Rattle.text.specs.Write.{categories_named, categories_text, colon, comma, name_for, named, written_name}
use Rattle.text.specs.declared.Variant.{Variant}
use Rattle.text.specs.declared.Variant.TheVariants.{Names, Abbreviations}

-- ---- names where they stand

pub written_stands : (v : Variant) (line : List ℕ) → written_name v (standing_in line) ≡ span_bytes (body_of line) (written_in v line)
unfolding written_name written_in
written_stands Names line = name_stands line
written_stands Abbreviations line =
    rw (abbreviation_stands line, name_stands line, span_length (body_of line) (abbreviation_in line)) (pick (leb 1 (abbreviation_in line).length))
  where
    pick : (t : Bool) → cond t (span_bytes (body_of line) (abbreviation_in line)) (span_bytes (body_of line) (name_in line))
        ≡ span_bytes (body_of line) (cond t (abbreviation_in line) (name_in line))
    pick true = refl
    pick false = refl

pub written_small : (v : Variant) (line : List ℕ) → (written_in v line).length ≤ name_size
unfolding written_in name_in abbreviation_in
written_small Names line = omega arith
written_small Abbreviations line = pick (leb 1 (abbreviation_in line).length)
  where
    pick : (t : Bool) → (cond t (abbreviation_in line) (name_in line)).length ≤ name_size
    pick true = omega arith
    pick false = omega arith

-- ---- measures

-- all names are there, and n bytes are what the text has
pub record Whole (is_named : Bool) (text : List ℕ) (most n : ℕ) : Type 0 where
  pub named : is_named ≡ true
  pub count : n ≡ length text
  pub at_most_lem : n ≤ most

module _ {is_named : Bool} {text : List ℕ} {most : ℕ} where
  pub counts : {n : ℕ} → Whole is_named text most n → MeasuredText is_named text most (Some n)
  counts {n} w = record { measure = rw (w.named, w.count); at_most_lem = λ m e. let q : n ≡ m = cc in let l = w.at_most_lem in omega arith }

  pub misses : is_named ≡ false → MeasuredText is_named text most None
  misses e = record { measure = rw e; at_most_lem = λ m f. cc }

  module _ {r : Option ℕ} (t : MeasuredText is_named text most r) where
    pub counted : {n : ℕ} → r ≡ Some n → Whole is_named text most n
    counted {n} e = pick is_named refl (sym e ∙ t.measure)
      where
        pick : (b : Bool) → is_named ≡ b → Some n ≡ cond b (Some (length text)) None → Whole is_named text most n
        pick true f g = record { named = f; count = cc; at_most_lem = t.at_most_lem n e }
        pick false f g = cc

    pub missed : r ≡ None → is_named ≡ false
    missed e = pick is_named (sym e ∙ t.measure)
      where
        pick : (b : Bool) → None ≡ cond b (Some (length text)) None → b ≡ false
        pick true g = cc
        pick false g = refl

    -- where a buffer has room for so many bytes, the answer for the measure is that for the text
    pub room_length : (size : ℕ) → room_of r size ≡ length_of (require is_named 2 (granted text)) size
    unfolding length_of
    room_length size = rw t.measure (pick is_named)
      where
        pick : (b : Bool) → room_of (cond b (Some (length text)) None) size ≡ length_of (require b 2 (granted text)) size
        pick true = refl
        pick false = refl

-- ---- the name for a value, by the line that the last entry for it stands in

-- the name that is written of entry k
pub entry_written : (bytes starts : List ℕ) (v : Variant) {k : ℕ} {line : List ℕ} → k < length starts - 1 → line ≡ line_at (lines_by bytes starts) k
    → written_name v (entry_at (entries_by bytes starts) k) ≡ span_bytes (body_of line) (written_in v line)
entry_written bytes starts v {k} {line} h f = rw (entries_at bytes starts k h, ← f) (written_stands v line)

-- the same, by the span that was found there
pub name_is : (bytes starts : List ℕ) (v : Variant) {k : ℕ} {line : List ℕ} {s : Span} → k < length starts - 1 → line ≡ line_at (lines_by bytes starts) k → s ≡ written_in v line
    → written_name v (entry_at (entries_by bytes starts) k) ≡ span_bytes (body_of line) s
name_is bytes starts v h f e = rw e (entry_written bytes starts v h f)

-- by what the search for it found
module _ (bytes starts : List ℕ) (v : Variant) (value : Value) (l : Label) {r : Option ℕ} (f : r ≡ last_entry_for (entries_by bytes starts) value l) where
  module _ {k : ℕ} (e : r ≡ Some k) where
    last_is : last_entry_for (entries_by bytes starts) value l ≡ Some k
    last_is = sym f ∙ e

    pub found_below : k < length starts - 1
    unfolding last_entry_for
    found_below =
        let n = entries_length bytes starts in
        let u = (last_holds (λ j. stands_for value l (entry_at (entries_by bytes starts) j)) (length (entries_by bytes starts)) k last_is).0 in omega arith

    name_found : name_for (entries_by bytes starts) v value l ≡ written_name v (entry_at (entries_by bytes starts) k)
    unfolding name_for
    name_found = rw last_is

    pub name_counted : {line : List ℕ} {s : Span} → line ≡ line_at (lines_by bytes starts) k → s ≡ written_in v line
        → MeasuredText (named (entries_by bytes starts) value l) (name_for (entries_by bytes starts) v value l) name_size (Some s.length)
    unfolding named
    name_counted {line} g h =
        let n = span_length (body_of line) (written_in v line) in
        rw h (counts (record { named = rw last_is; count = rw (name_found, entry_written bytes starts v found_below g) (sym n); at_most_lem = written_small v line }))

  module _ (e : r ≡ None) where
    pub name_missing : MeasuredText (named (entries_by bytes starts) value l) (name_for (entries_by bytes starts) v value l) name_size None
    unfolding named
    name_missing = misses (rw (← f, e))

-- ---- the names of categories, one after another

-- the categories of a set from c on
unfoldable pub members_from : List ℕ → ℕ → List ℕ
members_from ws c = drop (length (members_below ws c)) (members_of ws)

module _ (ws : List ℕ) where
  from_first : members_from ws 0 ≡ members_of ws
  unfolding members_from members_below
  from_first = refl

  -- the next one is found, and those behind it
  from_next : (c k : ℕ) → next_category_from ws c ≡ Some k → members_from ws c ≡ k ∷ members_from ws (k + 1)
  unfolding members_from
  from_next c k e =
      let w = (next_within ws c k e).1 in
      let (r, f) = members_front ws (k + 1) (omega arith) in
      rw (f, drop-append_seam (members_below ws (k + 1)) r, next_listed ws c k e, append_assoc (members_below ws c) (k ∷ []) r, drop-append_seam (members_below ws c) (k ∷ r))

  -- or none is, and there are no more
  from_last : (c : ℕ) → next_category_from ws c ≡ None → c ≤ length ws * 64 → members_from ws c ≡ []
  unfolding members_from
  from_last c e l = rw (sym (last_listed ws c (length ws * 64) e l) ∙ all_listed ws (length ws * 64) refl) (drop-length (members_of ws))

-- the mark before the first adds as much as any other
marks_alike : (es : List Entry) (v : Variant) (m n : ℕ) (cs : List ℕ) → length (categories_text es v m cs) ≡ length (categories_text es v n cs)
unfolding categories_text
marks_alike es v m n [] = refl
marks_alike es v m n (c ∷ cs) = refl

abbrev pub text_of : List Entry → Variant → List ℕ → List ℕ
text_of es v ws = categories_text es v colon (members_of ws)

-- a loop that has measured the names of the categories below c: it starts, goes on, misses a name, and ends where there are no more
pub record Measured (es : List Entry) (v : Variant) (ws : List ℕ) (total c : ℕ) : Type 0 where
  pub size : length ws ≡ words
  pub within : c ≤ words * 64
  pub named : categories_named es (members_of ws) ≡ categories_named es (members_from ws c)
  pub count : length (text_of es v ws) ≡ total + length (categories_text es v comma (members_from ws c))
  pub small : total ≤ c * (1 + name_size)

module _ {es : List Entry} {v : Variant} {ws : List ℕ} where
  pub measured_none : length ws ≡ words → Measured es v ws 0 0
  measured_none h = record {
    size = h;
    within = omega arith;
    named = rw from_first;
    count = rw from_first (omega (arith, marks_alike es v colon comma (members_of ws)));
    small = omega arith;
  }

  module _ {total c : ℕ} (h : Measured es v ws total c) {f : Option ℕ} (found : f ≡ next_category_from ws c) where
    pub measured_last : f ≡ None → MeasuredText (categories_named es (members_of ws)) (text_of es v ws) max_categories (Some total)
    unfolding categories_named categories_text
    measured_last e =
        let s = h.size in
        let u = h.within in
        let l = from_last ws c (sym found ∙ e) (omega arith) in
        let m = h.small in
        counts (record { named = h.named ∙ rw l; count = omega (arith, rw l at h.count); at_most_lem = omega arith })

    -- the category that is found, and the measure of its name
    module _ {k : ℕ} (at : f ≡ Some k) {z : Label} (y : z ≡ zero_label) {r : Option ℕ} (t : MeasuredText (named es (Category k) z) (name_for es v (Category k) z) name_size r) where
      next_is : members_from ws c ≡ k ∷ members_from ws (k + 1)
      next_is = from_next ws c k (sym found ∙ at)

      pub measured_next : {n : ℕ} → r ≡ Some n → Measured es v ws (total + (1 + n)) (k + 1)
      unfolding categories_named categories_text
      measured_next b =
          let w = counted (rw y at t) b in
          let s = h.size in
          let u = next_within ws c k (sym found ∙ at) in
          let f = u.0 in
          let g = u.1 in
          let q = w.count in
          let m = h.small in
          let l = w.at_most_lem in
          let p = rw next_is at h.count in
          let n = length-append (name_for es v (Category k) zero_label) (categories_text es v comma (members_from ws (k + 1))) in
          record {
            size = s;
            within = omega arith;
            named = h.named ∙ rw (next_is, w.named);
            count = omega arith;
            small = omega arith;
          }

      pub measured_missing : {most : ℕ} → r ≡ None → MeasuredText (categories_named es (members_of ws)) (text_of es v ws) most None
      unfolding categories_named
      measured_missing b = misses (h.named ∙ rw (next_is, missed (rw y at t) b))

-- a loop that has put the names of the categories below c: what is left, put where it stands, makes what was to be put
pub record PutBelow (es : List Entry) (v : Variant) (ws out : List ℕ) (at past mark c : ℕ) (after : List ℕ) : Type 0 where
  pub size : length ws ≡ words
  pub within : c ≤ words * 64
  pub same_length : length after ≡ length out
  pub left : past + length (categories_text es v mark (members_from ws c)) ≡ at + length (text_of es v ws)
  pub written : put_at after past (categories_text es v mark (members_from ws c)) ≡ put_at out at (text_of es v ws)

module _ {es : List Entry} {v : Variant} {ws out : List ℕ} {at : ℕ} where
  pub put_none : length ws ≡ words → PutBelow es v ws out at at colon 0 out
  put_none h = record { size = h; within = omega arith; same_length = refl; left = rw from_first; written = rw from_first }

  module _ {past mark c : ℕ} {after : List ℕ} (h : PutBelow es v ws out at past mark c after) {f : Option ℕ} (found : f ≡ next_category_from ws c) where
    pub put_last : f ≡ None → Put out at (text_of es v ws) past after
    unfolding categories_text
    put_last e =
        let s = h.size in
        let u = h.within in
        let l = from_last ws c (sym found ∙ e) (omega arith) in
        let p = rw l at h.left in
        record { past = omega arith; written = sym (put_nil after past) ∙ rw l at h.written }

    -- the category that is found, and its name
    module _ (room : at + length (text_of es v ws) ≤ length out) {k : ℕ} (e : f ≡ Some k) where
      left_is : members_from ws c ≡ k ∷ members_from ws (k + 1)
      left_is = from_next ws c k (sym found ∙ e)

      fits : past + suc (length (name_for es v (Category k) zero_label)) + length (categories_text es v comma (members_from ws (k + 1))) ≡ at + length (text_of es v ws)
      unfolding categories_text
      fits =
          let p = rw left_is at h.left in
          let n = length-append (name_for es v (Category k) zero_label) (categories_text es v comma (members_from ws (k + 1))) in omega arith

      pub put_room : past + 1 + length (name_for es v (Category k) zero_label) ≤ length after
      put_room = let f = fits in let l = h.same_length in omega arith

      pub put_next : {r : ℕ} {more : List ℕ} → Put after past (mark ∷ name_for es v (Category k) zero_label) r more → PutBelow es v ws out at r comma (k + 1) more
      unfolding categories_text
      put_next {r} {more} p =
          let s = h.size in
          let u = (next_within ws c k (sym found ∙ e)).1 in
          let f = fits in
          let l = h.same_length in
          let q = p.past in
          let text : List ℕ = mark ∷ name_for es v (Category k) zero_label in
          record {
            size = s;
            within = omega arith;
            same_length = put_same_length (omega arith) p ∙ l;
            left = omega arith;
            written = rw (p.written, q) (put_put after past text (categories_text es v comma (members_from ws (k + 1))) (omega arith)) ∙ rw left_is at h.written;
          }

-- The laws of the hashes of names: names that are the same have the same hash.
use mathlib.Core.Bool.{Bool, true, false, cond, ◌&&◌, ◌||◌, true≢false}
use mathlib.Core.List.{List, [], ◌∷◌}
use mathlib.Core.Logic.{⊎_elim}
use Rattle.std.specs.List.{fold, list_any, zip}
use Rattle.std.proofs.lemmas.Slice.Zip.{get_or-zip, length-zip}
use Rattle.std.specs.Option.{IfSome, is_some}
use Rattle.std.specs.Prelude.{Option, None, Some}
use mathlib.Core.Path.{◌≡◌, refl, sym, ap, ◌∙◌, subst}
use Prim.Native.Nat.{ℕ, ◌+◌, ◌/◌, ◌%◌, ◌^◌, ◌<◌}
use native.Mathlib.Nat.{add-zero, one-mul, zero-add}
use native.Mathlib.Omega.{arith}
use lib.Bits.{bit_or}
use lib.Dec.{eqb, leb}
use lib.ListN.{get_or, length, set, take, length-set}
use lib.Pow.{shl-shr}
use lib.Seq.{get_or-set_other, get_or-set_same, get_or-take, length-take-le}
use borrow.Author.Count.{below_more}
use borrow.Author.Tests.{eq-eqb, eqb-true, leb-false, lt-leb}
use Rattle.common.specs.Index.{some_below, first_from, tabulate}
use Rattle.label.specs.Words.{bit}
use Rattle.label.proofs.BitLaws.{bit_or_lem}
use Rattle.common.proofs.BoolLaws.{both, either, first_true, neither, not_so, or_first, or_second, second_true}
use Rattle.common.proofs.IndexLaws.{fill_next, tabulate_at, tabulate_same}
use Rattle.common.proofs.SearchLaws.{none_of, pass, same_or_not}
use Rattle.octets.specs.Bytes.{same_bytes}
use Rattle.octets.proofs.ByteLaws.{same_is}
use Rattle.alias_entry.specs.Entry.{abbreviation_bytes, name_bytes}
use Rattle.alias_entry.specs.declared.Entry.{Entry}
use Rattle.alias.specs.declared.filter.Filter.{Filter}
use Rattle.alias.specs.declared.hash.Hashes.{Hashes}
use Rattle.alias.specs.declared.hash.LineHashes.{LineHashes}
use Rattle.alias.specs.Internal.Hash.{HashesKept, HashesOf, Filtered, NoneCollide, in_filter, hash_from, hash_of, hashed_count, filter_words, with_hash, collide, collide_at, collides_before, name_hash, next_hash, other_bytes, other_hash, repeats_within}
use Rattle.alias.specs.Lines.{entry_at, max_lines}
use Rattle.alias.specs.Lookup.{called_of}
use Rattle.alias.specs.Table.{repeats_at, shares_of}
use Rattle.alias.specs.Internal.Walk.{first_repeat}
use Rattle.alias.proofs.LookupLaws.{shares_at}
use Rattle.alias.proofs.ChainLaws.{some_element, some_none}

-- ---- the hash of bytes

pub hash_folded : (hash : ℕ) (xs : List ℕ) → fold next_hash hash xs ≡ hash_from hash xs
unfolding hash_from
hash_folded hash [] = refl
hash_folded hash (x ∷ xs) = hash_folded (next_hash hash x) xs

-- ---- an entry's other name

abbreviated : (e : Entry) → leb 1 (length (abbreviation_bytes e)) ≡ true → other_bytes e ≡ abbreviation_bytes e
unfolding other_bytes
abbreviated e h = rw h

-- ---- entries that have a name in common have a hash in common

same_hashes : (xs ys : List ℕ) → same_bytes xs ys ≡ true → eqb (hash_of xs) (hash_of ys) ≡ true
same_hashes xs ys h = eq-eqb (hash_of xs) (hash_of ys) (ap hash_of (same_is xs ys h))

called_hashes : (e : Entry) (text : List ℕ) → called_of e text ≡ true → (eqb (hash_of (name_bytes e)) (hash_of text) || eqb (hash_of (other_bytes e)) (hash_of text)) ≡ true
unfolding called_of
called_hashes e text h =
    let p = leb 1 (length (abbreviation_bytes e)) in
    let q = same_bytes (abbreviation_bytes e) text in
    ⊎_elim (λ u. or_first _ (same_hashes (name_bytes e) text u))
    (λ u. or_second (eqb (hash_of (name_bytes e)) (hash_of text)) (same_hashes (other_bytes e) text (rw (abbreviated e (first_true p q u)) (second_true p q u))))
    (either (same_bytes (name_bytes e) text) (p && q) h)

shared_hashes : (e f : Entry) → shares_of e f ≡ true → collide (hash_of (name_bytes e)) (hash_of (other_bytes e)) (hash_of (name_bytes f)) (hash_of (other_bytes f)) ≡ true
unfolding shares_of
shared_hashes e f h =
    let p = leb 1 (length (abbreviation_bytes f)) in
    let q = called_of e (abbreviation_bytes f) in
    ⊎_elim (λ u. or_first _ (called_hashes e (name_bytes f) u))
    (λ u. or_second (eqb (hash_of (name_bytes e)) (hash_of (name_bytes f)) || eqb (hash_of (other_bytes e)) (hash_of (name_bytes f))) (called_hashes e (other_bytes f) (rw (abbreviated f (first_true p q u)) (second_true p q u))))
    (either (called_of e (name_bytes f)) (p && q) h)

-- ---- the hashes of an entry by its texts

module _ (e : Entry) {n a : List ℕ} (p : n ≡ name_bytes e) (q : a ≡ abbreviation_bytes e) where
  other_by : (b : Bool) → hash_of (cond b (abbreviation_bytes e) (name_bytes e)) ≡ cond b (hash_of a) (hash_of n)
  other_by true = ap hash_of (sym q)
  other_by false = ap hash_of (sym p)

  pub hashes_of : {h : LineHashes} → h.name ≡ hash_of n → h.other ≡ cond (leb 1 (length a)) (hash_of a) h.name → h.unclear ≡ (eqb (length n) (length a) && eqb h.name h.other) → HashesOf e h
  unfolding other_bytes
  hashes_of {h = l} f g h =
      record {
        name_is = f ∙ ap hash_of p;
        other_is = other_is;
        within = λ u. not_so (repeats_within e) (λ s. true≢false (sym (opens (same_is (name_bytes e) (abbreviation_bytes e) s)) ∙ sym h ∙ u));
      }
    where
      other_is : l.other ≡ hash_of (other_bytes e)
      other_is = g ∙ ap (λ (k : ℕ). cond (leb 1 (length a)) (hash_of a) k) f ∙ sym (other_by (leb 1 (length a))) ∙ ap (λ (xs : List ℕ). hash_of (cond (leb 1 (length xs)) (abbreviation_bytes e) (name_bytes e))) q

      same : name_bytes e ≡ abbreviation_bytes e → (b : Bool) → cond b (abbreviation_bytes e) (name_bytes e) ≡ name_bytes e
      same s true = sym s
      same s false = refl

      opens : name_bytes e ≡ abbreviation_bytes e → (eqb (length n) (length a) && eqb l.name l.other) ≡ true
      opens s =
          both (eq-eqb (length n) (length a) (ap length (p ∙ s ∙ sym q)))
          (eq-eqb l.name l.other (f ∙ ap hash_of (p ∙ sym (same s (leb 1 (length (abbreviation_bytes e))))) ∙ sym other_is))

-- the hashes of what is an entry only where there are hashes
pub hashes_if : {e f : Entry} (o : Option LineHashes) → (is_some o ≡ true → e ≡ f) → IfSome o (λ h. HashesOf e h) → IfSome o (λ h. HashesOf f h)
hashes_if None h x = tt
hashes_if (Some l) h x = subst (λ (e : Entry). HashesOf e l) (h refl) x

-- ---- the lists of hashes

pub keep_none : (es : List Entry) (h : Hashes) → HashesKept es 0 h
unfolding tabulate
keep_none es h = record { name = refl; other = refl; within = λ u k l. absurd (omega arith) }

pub keep_one : {es : List Entry} {h : Hashes} {k : ℕ} {l : LineHashes} → length h.names ≡ max_lines → length h.others ≡ max_lines → k < max_lines → HashesKept es k h → HashesOf (entry_at es k) l
    → HashesKept es (k + 1) (record { names = set h.names k l.name; others = set h.others k l.other; unclear = h.unclear || l.unclear })
keep_one {es} {h} {k} {l} m n b x e =
    record {
      name = (fill_next (record { upto = omega arith; long = m; front = x.name }) b e.name_is).front;
      other = (fill_next (record { upto = omega arith; long = n; front = x.other }) b e.other_is).front;
      within = λ u. let d = neither h.unclear l.unclear u in below_more _ _ (x.within d.0) (e.within d.1);
    }

-- they are those of other entries that are the same up to there
pub kept_same : (es fs : List Entry) (n : ℕ) {t : Hashes} → ((k : ℕ) → k < n → entry_at es k ≡ entry_at fs k) → HashesKept es n t → HashesKept fs n t
kept_same es fs n h x =
    record {
      name = x.name ∙ tabulate_same (name_hash es) (name_hash fs) n (λ k l. ap (λ (e : Entry). hash_of (name_bytes e)) (h k l));
      other = x.other ∙ tabulate_same (other_hash es) (other_hash fs) n (λ k l. ap (λ (e : Entry). hash_of (other_bytes e)) (h k l));
      within = λ u k l. ap repeats_within (sym (h k l)) ∙ x.within u k l;
    }

-- the pairs of hashes of the entries before entry k
pub some_pair : (h : Hashes) (k : ℕ) → length h.names ≡ max_lines → length h.others ≡ max_lines → k < max_lines
    → list_any (λ (p : ℕ × ℕ). collide p.0 p.1 (get_or h.names k 0) (get_or h.others k 0)) (zip (take k h.names) (take k h.others)) ≡ some_below (collide_at h k) k
some_pair h k m n l =
    let c = get_or h.names k 0 in
    let d = get_or h.others k 0 in
    let e = length-take-le k h.names (omega arith) in
    let f = length-take-le k h.others (omega arith) in
    let z = length-zip (take k h.names) (take k h.others) in
    some_element (λ (p : ℕ × ℕ). collide p.0 p.1 c d) (collide_at h k) (zip (take k h.names) (take k h.others)) k (0, 0) (omega arith)
    (λ i a. ap (λ (p : ℕ × ℕ). collide p.0 p.1 c d) (get_or-zip (take k h.names) (take k h.others) i (0, 0) (omega arith) (omega arith))
    ∙ ap (λ (x : ℕ). collide x (get_or (take k h.others) i 0) c d) (get_or-take k h.names i 0 a) ∙ ap (λ (x : ℕ). collide (get_or h.names i 0) x c d) (get_or-take k h.others i 0 a))

-- a hash in a list of hashes
hash_at : (f : ℕ → ℕ) (n k : ℕ) (xs : List ℕ) → take n xs ≡ tabulate f n → k < n → get_or xs k 0 ≡ f k
hash_at f n k xs e h = sym (get_or-take n xs k 0 h) ∙ ap (λ (ys : List ℕ). get_or ys k 0) e ∙ tabulate_at f n k 0 h

module _ {es : List Entry} (n : ℕ) {t : Hashes} (h : HashesKept es (hashed_count n) t) (k : ℕ) (l : k < n) where
  meeting : (j : ℕ) → j < k → k < max_lines → shares_at es k j ≡ true → collide_at t k j ≡ true
  meeting j m f e =
      rw (
        hash_at (name_hash es) (hashed_count n) j t.names h.name (omega arith),
        hash_at (other_hash es) (hashed_count n) j t.others h.other (omega arith),
        hash_at (name_hash es) (hashed_count n) k t.names h.name (omega arith),
        hash_at (other_hash es) (hashed_count n) k t.others h.other (omega arith),
      )
      (shared_hashes (entry_at es j) (entry_at es k) e)

  -- an entry that may have no name in common with an earlier one, by its hashes, has none
  pub no_collision : collides_before t k ≡ false → some_below (shares_at es k) k ≡ false
  unfolding collides_before
  no_collision e =
      let d = neither (leb max_lines k) _ e in
      let f = leb-false max_lines k d.0 in
      some_none (shares_at es k) k (λ j m. not_so (shares_at es k j) (λ s. true≢false (sym (meeting j m f s) ∙ none_of (collide_at t k) k j d.1 m)))

-- ---- marks

power_bit : (s : ℕ) → bit (2 ^ s) s ≡ true
unfolding bit
power_bit s = ap (λ (z : ℕ). eqb (z % 2) 1) (ap (λ (z : ℕ). z / 2 ^ s) (sym (one-mul (2 ^ s))) ∙ shl-shr 1 s)

module _ (f : Filter) (size : length f.words ≡ filter_words) where
  -- a bit stays set
  filter_kept : (hash other : ℕ) → in_filter f hash ≡ true → in_filter (with_hash f other) hash ≡ true
  filter_kept hash other h = ⊎_elim same (λ u. ap (λ (w : ℕ). bit w (hash % 64)) (get_or-set_other f.words j i (bit_or x y) 0 u) ∙ h) (same_or_not i j)
    where
      i : ℕ
      i = hash / 64 % filter_words

      j : ℕ
      j = other / 64 % filter_words

      x : ℕ
      x = get_or f.words j 0

      y : ℕ
      y = 2 ^ (other % 64)

      same : i ≡ j → bit (get_or (set f.words j (bit_or x y)) i 0) (hash % 64) ≡ true
      same u =
          ap (λ (n : ℕ). bit (get_or (set f.words j (bit_or x y)) n 0) (hash % 64)) u ∙ ap (λ (w : ℕ). bit w (hash % 64)) (get_or-set_same f.words j (bit_or x y) 0 (omega (arith, size)))
          ∙ bit_or_lem x y (hash % 64) ∙ or_first (bit y (hash % 64)) (ap (λ (n : ℕ). bit (get_or f.words n 0) (hash % 64)) (sym u) ∙ h)

  filter_set : (hash : ℕ) → in_filter (with_hash f hash) hash ≡ true
  filter_set hash =
      let i = hash / 64 % filter_words in
      let x = get_or f.words i 0 in
      let y = 2 ^ (hash % 64) in
      ap (λ (w : ℕ). bit w (hash % 64)) (get_or-set_same f.words i (bit_or x y) 0 (omega (arith, size))) ∙ bit_or_lem x y (hash % 64) ∙ or_second (bit x (hash % 64)) (power_bit (hash % 64))

  filter_size : (hash : ℕ) → length (with_hash f hash).words ≡ filter_words
  filter_size hash = length-set f.words (hash / 64 % filter_words) _ ∙ size

module _ {t : Hashes} {f : Filter} {k : ℕ} (h : Filtered t k f) where
  filter_both : Filtered t (k + 1) (with_hash (with_hash f (get_or t.names k 0)) (get_or t.others k 0))
  filter_both =
      record {
        size = filter_size first size (get_or t.others k 0);
        name = below_more _ _ (λ j l. kept (get_or t.names j 0) (h.name j l)) (filter_kept first size (get_or t.names k 0) (get_or t.others k 0) (filter_set f h.size (get_or t.names k 0)));
        other = below_more _ _ (λ j l. kept (get_or t.others j 0) (h.other j l)) (filter_set first size (get_or t.others k 0));
      }
    where
      first : Filter
      first = with_hash f (get_or t.names k 0)

      size : length first.words ≡ filter_words
      size = filter_size f h.size (get_or t.names k 0)

      kept : (hash : ℕ) → in_filter f hash ≡ true → in_filter (with_hash first (get_or t.others k 0)) hash ≡ true
      kept hash m = filter_kept first size hash (get_or t.others k 0) (filter_kept f h.size hash (get_or t.names k 0) m)

  pub filter_next : {first second : Filter} → first ≡ with_hash f (get_or t.names k 0) → second ≡ with_hash first (get_or t.others k 0) → Filtered t (k + 1) second
  filter_next e g = rw (g, e) filter_both

  -- a hash whose bit is not set is none of the earlier ones
  apart : (hash c : ℕ) → in_filter f hash ≡ true → in_filter f c ≡ false → eqb hash c ≡ false
  apart hash c m z = not_so (eqb hash c) (λ e. true≢false (sym m ∙ ap (in_filter f) (eqb-true hash c e) ∙ z))

  pub not_in_filter : k < max_lines → in_filter f (get_or t.names k 0) ≡ false → in_filter f (get_or t.others k 0) ≡ false → collides_before t k ≡ false
  unfolding collides_before
  not_in_filter l d e =
      rw (lt-leb max_lines k l)
      (some_none (collide_at t k) k
      (λ j m. rw (apart _ _ (h.name j m) d, apart _ _ (h.other j m) d, apart _ _ (h.name j m) e, apart _ _ (h.other j m) e)))

-- a loop over n entries has the hashes of the first k in the filter, and none of these collides with an earlier one
pub record Filtering (t : Hashes) (f : Filter) (k : ℕ) : Type 0 where
  pub hashes : Filtered t k f
  pub clear : NoneCollide t k

-- ---- where the hashes leave nothing open, no entry repeats a name

collides_small : (t : Hashes) (k : ℕ) → collides_before t k ≡ false → k < max_lines
unfolding collides_before
collides_small t k e = leb-false max_lines k (neither (leb max_lines k) _ e).0

pub none_collide : (es : List Entry) (n : ℕ) {t : Hashes} → length es ≡ n → HashesKept es (hashed_count n) t → t.unclear ≡ false → NoneCollide t n → None ≡ first_repeat es
unfolding first_repeat repeats_at first_from
none_collide es n {t} e h u m =
    sym (ap (first_from (repeats_at es) 0) e ∙ ap (first_from (repeats_at es) 0) (sym (add-zero n)) ∙ pass (repeats_at es) 0 n 0 (λ j l. ap (repeats_at es) (zero-add j) ∙ clear j l))
  where
    clear : (k : ℕ) → k < n → repeats_at es k ≡ false
    clear k l = let f = collides_small t k (m k l) in rw (h.within u k (omega arith)) (no_collision n h k l (m k l))

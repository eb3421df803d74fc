-- What is written of a label reads back as that label.
use mathlib.Core.Bool.{Bool, true, false, cond, not, ◌&&◌, ◌||◌, true≢false}
use mathlib.Core.List.Memᴰ
use mathlib.Core.List.{List, [], ◌∷◌, ◌++◌, map, map-append, append-nil, Memᴰ}
use mathlib.Core.Logic.{⊎_elim}
use mathlib.Core.Path.{◌≡◌, refl, sym, ap, ap₂, ◌∙◌}
use Prim.Native.Nat.{ℕ, zero, suc, ◌*◌, ◌^◌, ◌≤◌, ◌<◌}
use native.Mathlib.Nat.{eq-or-lt_of_le, le_of_suc-le-suc}
use native.Mathlib.Omega.{arith}
use lib.Dec.{eqb, ltb}
use lib.ListN.{length, length-append}
use lib.Seq.{drop-append-add, take-append_seam}
use borrow.Author.Tests.{eq-eqb, eqb-true, le-ltb, lt-ltb, ltb-true}
use Rattle.common.specs.Answer.{Answer, and_then, granted, refused, require}
use Rattle.label.specs.Label
use Rattle.label.specs.Label.{upper_bound_of}
use Rattle.label.specs.Words.{has, includes_of, listed_if, members_below, members_of, single_of, union_of, word_at, words}
use Rattle.label.specs.declared.Label.{Label}
use Rattle.common.proofs.AnswerLaws.{grants_same}
use Rattle.common.proofs.BoolLaws.{both, either, first_true, or_first, or_second, same_truth, second_true}
use Rattle.label.proofs.LabelLaws.{upper_typed}
use Rattle.label.proofs.ListingLaws.{has_within, members_exact}
use Rattle.label.proofs.WordLaws.{has_union, includes_antisym, includes_exact}
use Rattle.octets.specs.Bytes.{split}
use Rattle.octets.proofs.ByteLaws.{Without, index_behind, index_without, split_behind, split_without}
use Rattle.alias_entry.specs.Entry.{is_letter, is_name_byte}
use Rattle.alias_entry.specs.declared.Entry.{Entry}
use Rattle.alias_entry.specs.declared.Value.TheVariants.{Hierarchy, Category, WholeLabel}
use Rattle.alias.proofs.TableLaws.{Good}
use Rattle.text.specs.Read.{categories_read, category_named, composed_of, label_in_text, label_named, no_categories}
use Rattle.text.specs.Write.{categories_named, categories_text, colon, comma, definition_named, definition_text, name_for, named, named_in, text_in}
use Rattle.text.specs.declared.Form.{Form}
use Rattle.text.specs.declared.Form.TheVariants.{Definition, Alias}
use Rattle.text.specs.declared.Variant.{Variant}
use Rattle.text.proofs.NameLaws.{alias_back, category_back, hierarchy_back, name_without, single_back}
use Rattle.label.proofs.SingleLaws.{has_single, includes_single, no_category, single_length, single_word, zero_word}

-- ---- the names of categories

abbrev category_names : List Entry → Variant → List ℕ → List (List ℕ)
category_names es v cs = map (λ c. name_for es v (Category c) Label.zero_label) cs

pub all_named : (es : List Entry) (cs : List ℕ) → categories_named es cs ≡ true → (c : ℕ) → Memᴰ c cs → named es (Category c) Label.zero_label ≡ true
unfolding categories_named
all_named es [] e c m = absurd (Memᴰ.not-nil m)
all_named es (d ∷ cs) e c m =
    ⊎_elim
    (λ q. ap (λ (k : ℕ). named es (Category k) Label.zero_label) q ∙ first_true (named es (Category d) Label.zero_label) (categories_named es cs) e)
    (λ q. all_named es cs (second_true (named es (Category d) Label.zero_label) (categories_named es cs) e) c q) (Memᴰ.cases_cons m)

-- ---- reading names one after the other

pub read_append : (es : List Entry) (ws : List ℕ) (xs ys : List (List ℕ))
    → categories_read es ws (xs ++ ys) ≡ and_then (categories_read es ws xs) (λ (us : List ℕ). categories_read es us ys)
unfolding categories_read
read_append es ws [] ys = refl
read_append es ws (x ∷ xs) ys = go (category_named es x) (λ us. read_append es us xs ys)
  where
    Later : Type 0
    Later = (us : List ℕ) → categories_read es us (xs ++ ys) ≡ and_then (categories_read es us xs) (λ (us : List ℕ). categories_read es us ys)

    by : (t : Bool) (us : List ℕ) → Later
        → require t 22 (categories_read es us (xs ++ ys)) ≡ and_then (require t 22 (categories_read es us xs)) (λ (us : List ℕ). categories_read es us ys)
    by true us later = later us
    by false us later = refl

    go : (a : Answer ℕ) → Later
        → and_then a (λ (c : ℕ). require (not (includes_of ws (single_of c))) 22 (categories_read es (union_of ws (single_of c)) (xs ++ ys)))
        ≡ and_then (and_then a (λ (c : ℕ). require (not (includes_of ws (single_of c))) 22 (categories_read es (union_of ws (single_of c)) xs))) (λ (us : List ℕ). categories_read es us ys)
    go (granted c) later = by (not (includes_of ws (single_of c))) (union_of ws (single_of c)) later
    go (refused n d) later = refl

-- ---- the set that the names of a set's categories below c read as

record Collected (es : List Entry) (v : Variant) (ws : List ℕ) (c : ℕ) : Type 0 where
  set : List ℕ
  read : categories_read es no_categories (category_names es v (members_below ws c)) ≡ granted set
  size : length set ≡ words
  word : (i : ℕ) → word_at set i < 2 ^ 64
  members : (k : ℕ) → has set k ≡ (ltb k c && has ws k)

-- a number below suc c is below c or is c
below_suc : (k c : ℕ) (p : Bool) → (k ≡ c → p ≡ false) → (ltb k c && p) ≡ (ltb k (suc c) && p)
below_suc k c p h =
    same_truth (ltb k c && p) (ltb k (suc c) && p)
    (λ e. let l = ltb-true k c (first_true (ltb k c) p e) in rw (lt-ltb k (suc c) (omega arith)) (second_true (ltb k c) p e))
    (λ e. let l = ltb-true k (suc c) (first_true (ltb k (suc c)) p e) in
    let q = second_true (ltb k (suc c)) p e in
    ⊎_elim (λ (u : k ≡ c). absurd (true≢false (sym q ∙ h u))) (λ (u : k < c). rw (lt-ltb k c u) q) (eq-or-lt_of_le (le_of_suc-le-suc l)))

below_here : (k c : ℕ) (p : Bool) → (k ≡ c → p ≡ true) → ((ltb k c && p) || eqb k c) ≡ (ltb k (suc c) && p)
below_here k c p h =
    same_truth ((ltb k c && p) || eqb k c) (ltb k (suc c) && p)
    (λ e. ⊎_elim
    (λ u. let l = ltb-true k c (first_true (ltb k c) p u) in rw (lt-ltb k (suc c) (omega arith)) (second_true (ltb k c) p u))
    (λ u. let q = eqb-true k c u in rw (lt-ltb k (suc c) (omega arith)) (h q)) (either (ltb k c && p) (eqb k c) e))
    (λ e. let l = ltb-true k (suc c) (first_true (ltb k (suc c)) p e) in
    ⊎_elim (λ (u : k ≡ c). or_second (ltb k c && p) (eq-eqb k c u))
    (λ (u : k < c). or_first {p = ltb k c && p} (eqb k c) (both (lt-ltb k c u) (second_true (ltb k (suc c)) p e))) (eq-or-lt_of_le (le_of_suc-le-suc l)))

set_typed : (ws : List ℕ) → length ws ≡ words → ((i : ℕ) → word_at ws i < 2 ^ 64) → Label.Typed (Label.label_of 0 ws)
set_typed ws n w = record { hierarchy = omega arith; length_is = n; word = w }

module _ (es : List Entry) (good : Good es) (v : Variant) where
  collected_more : (ws : List ℕ) (c : ℕ) → c < words * 64 → named es (Category c) Label.zero_label ≡ true → has ws c ≡ true → Collected es v ws c
      → Collected es v ws (suc c)
  unfolding members_below categories_read upper_bound_of
  collected_more ws c small e h x =
      let name = name_for es v (Category c) Label.zero_label in
      let t = upper_typed (Label.label_of 0 x.set) (Label.label_of 0 (single_of c)) (set_typed x.set x.size x.word) (set_typed (single_of c) (single_length c) (single_word c)) in
      let free : includes_of x.set (single_of c) ≡ false = includes_single x.set c small ∙ x.members c ∙ rw (le-ltb c c (omega arith)) in
      record {
        set = union_of x.set (single_of c);
        read =
            ap (λ (p : Bool). categories_read es no_categories (category_names es v (listed_if p c (members_below ws c)))) h
            ∙ ap (categories_read es no_categories) (map-append (λ c. name_for es v (Category c) Label.zero_label) (members_below ws c) (c ∷ []))
            ∙ read_append es no_categories (category_names es v (members_below ws c)) (name ∷ [])
            ∙ ap (λ (a : Answer (List ℕ)). and_then a (λ (us : List ℕ). categories_read es us (name ∷ []))) x.read
            ∙ ap (λ (a : Answer ℕ). and_then a (λ (d : ℕ). require (not (includes_of x.set (single_of d))) 22 (granted (union_of x.set (single_of d))))) (category_back es good c Label.zero_label v e)
            ∙ ap (λ (p : Bool). require (not p) 22 (granted (union_of x.set (single_of c)))) free;
        size = t.length_is;
        word = t.word;
        members = λ k. has_union x.set (single_of c) k ∙ ap₂ ◌||◌ (x.members k) (has_single c k small) ∙ below_here k c (has ws k) (λ q. ap (has ws) q ∙ h);
      }

  collected_same : (ws : List ℕ) (c : ℕ) → has ws c ≡ false → Collected es v ws c → Collected es v ws (suc c)
  unfolding members_below
  collected_same ws c h x =
      record {
        set = x.set;
        read = ap (λ (p : Bool). categories_read es no_categories (category_names es v (listed_if p c (members_below ws c)))) h ∙ x.read;
        size = x.size;
        word = x.word;
        members = λ k. x.members k ∙ below_suc k c (has ws k) (λ q. ap (has ws) q ∙ h);
      }

  collected : (ws : List ℕ) → ((c : ℕ) → has ws c ≡ true → named es (Category c) Label.zero_label ≡ true) → (c : ℕ) → c ≤ words * 64 → Collected es v ws c
  unfolding members_below categories_read
  collected ws e zero l =
      record {
        set = no_categories;
        read = refl;
        size = refl;
        word = λ i. let z = zero_word i in omega arith;
        members = λ k. no_category k ∙ sym (ap (λ (p : Bool). p && has ws k) (le-ltb k 0 (omega arith)));
      }
  collected ws e (suc c) l = go (has ws c) refl (collected ws e c (omega arith))
    where
      go : (p : Bool) → has ws c ≡ p → Collected es v ws c → Collected es v ws (suc c)
      go true h x = collected_more ws c (omega arith) (e c h) h x
      go false h x = collected_same ws c h x

  -- the names of all categories of a set read as that set
  pub categories_back : (ws : List ℕ) → length ws ≡ words → ((i : ℕ) → word_at ws i < 2 ^ 64) → categories_named es (members_of ws) ≡ true
      → categories_read es no_categories (category_names es v (members_of ws)) ≡ granted ws
  unfolding members_of
  categories_back ws n w e =
      let x = collected ws (λ c h. all_named es (members_of ws) e c ((members_exact ws c).1 h)) (length ws * 64) (omega arith) in
      x.read ∙ ap granted (includes_antisym x.set ws (x.size ∙ sym n)
      ((includes_exact x.set ws w).1 (λ c h. x.members c ∙ both (lt-ltb c (length ws * 64) (has_within ws c h)) h))
      ((includes_exact ws x.set x.word).1 (λ c h. second_true (ltb c (length ws * 64)) (has ws c) (sym (x.members c) ∙ h))))

  -- ---- the text of a label

  -- the fields of the names of categories, joined by `,`
  fields_back : (c : ℕ) (cs : List ℕ) → categories_named es (c ∷ cs) ≡ true
      → split comma (name_for es v (Category c) Label.zero_label ++ categories_text es v comma cs) ≡ category_names es v (c ∷ cs)
  unfolding categories_text categories_named is_name_byte is_letter
  fields_back c [] e =
      let name = name_for es v (Category c) Label.zero_label in
      ap (split comma) (append-nil name) ∙ split_without comma name (name_without es good comma refl (Category c) Label.zero_label v (first_true (named es (Category c) Label.zero_label) true e))
  fields_back c (d ∷ cs) e =
      let name = name_for es v (Category c) Label.zero_label in
      let rest = named es (Category d) Label.zero_label && categories_named es cs in
      split_behind comma name (name_for es v (Category d) Label.zero_label ++ categories_text es v comma cs)
      (name_without es good comma refl (Category c) Label.zero_label v (first_true (named es (Category c) Label.zero_label) rest e))
      ∙ ap (λ (xs : List (List ℕ)). name ∷ xs) (fields_back d cs (second_true (named es (Category c) Label.zero_label) rest e))

  -- a label of one name, and of a name, `:` and what follows
  pub label_single : (text : List ℕ) → Without colon text → label_in_text es text ≡ label_named es text
  unfolding label_in_text
  label_single text w = rw (index_without colon text w, le-ltb (length text) (length text) (omega arith))

  label_composed : (name rest : List ℕ) → Without colon name → label_in_text es (name ++ colon ∷ rest) ≡ composed_of es name rest
  unfolding label_in_text
  label_composed name rest w =
      let n = length-append name (colon ∷ rest) in
      rw (index_behind colon name rest w, lt-ltb (length name) (length (name ++ colon ∷ rest)) (omega arith), take-append_seam name (colon ∷ rest), drop-append-add name (colon ∷ rest) 1)

  definition_by : (l : Label) → Label.Typed l → (cs : List ℕ) → members_of l.categories ≡ cs → named es (Hierarchy l.hierarchy) Label.zero_label ≡ true
      → categories_named es cs ≡ true
      → label_in_text es (name_for es v (Hierarchy l.hierarchy) Label.zero_label ++ categories_text es v colon cs) ≡ granted l
  unfolding categories_text is_name_byte is_letter composed_of categories_read
  definition_by l t [] m h e =
      let name = name_for es v (Hierarchy l.hierarchy) Label.zero_label in
      let same : no_categories ≡ l.categories = grants_same no_categories l.categories (ap (λ (cs : List ℕ). categories_read es no_categories (category_names es v cs)) (sym m) ∙ categories_back l.categories t.length_is t.word (ap (categories_named es) m ∙ e)) in
      ap (label_in_text es) (append-nil name) ∙ label_single name (name_without es good colon refl (Hierarchy l.hierarchy) Label.zero_label v h)
      ∙ single_back es good l.hierarchy Label.zero_label v h ∙ ap (λ (ws : List ℕ). granted (Label.label_of l.hierarchy ws)) same
  definition_by l t (c ∷ cs) m h e =
      let name = name_for es v (Hierarchy l.hierarchy) Label.zero_label in
      let rest = name_for es v (Category c) Label.zero_label ++ categories_text es v comma cs in
      let set : categories_read es no_categories (split comma rest) ≡ granted l.categories =
      ap (categories_read es no_categories) (fields_back c cs e) ∙ ap (λ (cs : List ℕ). categories_read es no_categories (category_names es v cs)) (sym m)
      ∙ categories_back l.categories t.length_is t.word (ap (categories_named es) m ∙ e) in
      label_composed name rest (name_without es good colon refl (Hierarchy l.hierarchy) Label.zero_label v h)
      ∙ ap (λ (a : Answer ℕ). and_then a (λ (h : ℕ). and_then (categories_read es no_categories (split comma rest)) (λ (ws : List ℕ). granted (Label.label_of h ws)))) (hierarchy_back es good l.hierarchy Label.zero_label v h)
      ∙ ap (λ (a : Answer (List ℕ)). and_then a (λ (ws : List ℕ). granted (Label.label_of l.hierarchy ws))) set

  definition_back : (l : Label) → Label.Typed l → definition_named es l ≡ true → label_in_text es (definition_text es v l) ≡ granted l
  unfolding definition_named definition_text
  definition_back l t e =
      let h = named es (Hierarchy l.hierarchy) Label.zero_label in
      let cs = categories_named es (members_of l.categories) in
      definition_by l t (members_of l.categories) refl (first_true h cs e) (second_true h cs e)

  -- what is written of a label, in whatever form, says that label
  pub label_back : (form : Form) (l : Label) → Label.Typed l → named_in es form l ≡ true → label_in_text es (text_in es form v l) ≡ granted l
  unfolding named_in text_in is_name_byte is_letter
  label_back Definition l t e = definition_back l t e
  label_back Alias l t e = go (named es WholeLabel l) refl e
    where
      go : (p : Bool) → named es WholeLabel l ≡ p → cond p true (definition_named es l) ≡ true
          → label_in_text es (cond p (name_for es v WholeLabel l) (definition_text es v l)) ≡ granted l
      go true h f = label_single (name_for es v WholeLabel l) (name_without es good colon refl WholeLabel l v h) ∙ alias_back es good l v t h
      go false h f = definition_back l t f

-- The laws of tuples, by the region's number.
use mathlib.Core.Bool.{Bool, true, false, cond, not, ◌&&◌, ◌||◌, and-false, true≢false}
use mathlib.Core.Logic.{◌↔◌}
use mathlib.Core.Path.{◌≡◌, refl, sym, ap, ap₂, ◌∙◌, subst}
use Prim.Native.Nat.{ℕ, ◌≤◌, ◌<◌}
use native.Mathlib.Omega.{arith}
use lib.Dec.{eqb, leb}
use borrow.Author.Tests.{eqb-true, eq-eqb, leb-true, le-leb}
use Rattle.common.specs.Index.{tabulate}
use Rattle.label.specs.Label
use Rattle.label.specs.Label.{Typed, dominates_of, zero_label}
use Rattle.label.specs.Region.{first_hierarchy, last_hierarchy, region_of, regions}
use Rattle.label.specs.declared.Label.{Label}
use Rattle.common.proofs.BoolLaws.{both, first_true, not_so, same_truth, second_true, three_true}
use Rattle.common.proofs.IndexLaws.{every_all, every_at, tabulate_at}
use Rattle.label.proofs.LabelLaws.{dominates_parts, dominates_trans, equal_exact, hierarchy_valid, lower_hierarchy, parts_dominate, upper_hierarchy, valid_hierarchy}
use Rattle.label.proofs.RegionLaws.{region_order, region_unique, region_within}
use Rattle.range.specs.Range
use Rattle.range.specs.Range.{common_of}
use Rattle.range.specs.Tuple.{TypedTuple, absent, contains_at, contains_of, cut_of, empty_of, is_there, meet_at, meet_of, region_part, present, region_range_at, reaches, split_of, tuple_of, valid_at, valid_of, within_at, within_of}
use Rattle.range.specs.declared.Range.{Range}
use Rattle.range.specs.declared.tuple.RegionRange.{RegionRange}
use Rattle.range.specs.declared.tuple.Tuple.{Tuple}
use Rattle.range.proofs.RangeLaws.{common_label, contains_high, contains_low, contains_parts, contains_valid, meet_labels, meet_valid, parts_contain, parts_valid, valid_parts}

-- ---- by the region

-- the tuple that has f r for each region r
pub range_of_lem : (f : ℕ → RegionRange) (r : ℕ) → r < regions → region_range_at (tuple_of (tabulate f regions)) r ≡ f r
range_of_lem f r h = tabulate_at f regions r _ h

-- a valid range with both ends in region r
pub record Placed (r : ℕ) (x : Range) : Type 0 where
  pub valid : Range.valid_of x ≡ true
  pub low : region_of x.low.hierarchy ≡ r
  pub high : region_of x.high.hierarchy ≡ r

pub valid_placed : (r : ℕ) (e : RegionRange) → is_there e ≡ true → valid_at r e ≡ true → Placed r e.range
unfolding valid_at
valid_placed r e p h =
    let low : ℕ = region_of e.range.low.hierarchy in
    let high : ℕ = region_of e.range.high.hierarchy in
    let t = three_true (Range.valid_of e.range) (eqb low r) (eqb high r) (rw p at h) in
    record { valid = t.0; low = eqb-true low r t.1; high = eqb-true high r t.2 }

pub placed_valid : (r : ℕ) (x : Range) → Placed r x → valid_at r (present x) ≡ true
unfolding valid_at
placed_valid r x p =
    both (both p.valid (eq-eqb (region_of x.low.hierarchy) r p.low)) (eq-eqb (region_of x.high.hierarchy) r p.high)

pub absent_valid : (r : ℕ) → valid_at r absent ≡ true
unfolding valid_at
absent_valid r = both ((equal_exact zero_label zero_label refl).1 refl) ((equal_exact zero_label zero_label refl).1 refl)

-- where there is no range, a valid tuple holds just that
pub valid_absent : (r : ℕ) (e : RegionRange) → Range.TypedRange e.range → is_there e ≡ false → valid_at r e ≡ true → e ≡ absent
unfolding valid_at
valid_absent r e t p h =
    let low : Bool = Label.equal_of e.range.low zero_label in
    let high : Bool = Label.equal_of e.range.high zero_label in
    let z = three_true (eqb e.present 0) low high (rw p at h) in
    let l = (equal_exact e.range.low zero_label t.low.length_is).0 z.1 in
    let u = (equal_exact e.range.high zero_label t.high.length_is).0 z.2 in
    ap₂ (λ (n : ℕ) (x : Range). record { present = n; range = x }) (eqb-true e.present 0 z.0) (ap₂ Range.range_of l u)

pub valid_region : (t : Tuple) → valid_of t ≡ true → (r : ℕ) → r < regions → valid_at r (region_range_at t r) ≡ true
unfolding valid_of
valid_region t v r k = every_at (λ j. valid_at j (region_range_at t j)) regions r v k

placed_region : (t : Tuple) → valid_of t ≡ true → (r : ℕ) → r < regions → is_there (region_range_at t r) ≡ true → Placed r (region_range_at t r).range
placed_region t v r k p = valid_placed r (region_range_at t r) p (valid_region t v r k)

-- the tuple that has f r for each region r is valid where each f r is
tabulated_valid : (f : ℕ → RegionRange) → ((r : ℕ) → r < regions → valid_at r (f r) ≡ true) → valid_of (tuple_of (tabulate f regions)) ≡ true
unfolding valid_of
tabulated_valid f h = every_all (λ r. valid_at r (region_range_at (tuple_of (tabulate f regions)) r)) regions (λ r k. ap (valid_at r) (range_of_lem f r k) ∙ h r k)

-- hierarchies between two of a region's are of that region
between : (r h a b : ℕ) → region_of a ≡ r → region_of b ≡ r → b ≤ 199 → a ≤ h → h ≤ b → region_of h ≡ r
between r h a b ea eb v l u =
    let wa = region_within a in
    let wb = region_within b in
    let fa : first_hierarchy r ≤ a = rw (← ea) wa.first in
    let lb : b ≤ last_hierarchy r = rw (← eb) (wb.last v) in
    let k : r < regions = rw (← ea) wa.known in
    region_unique r h k (omega arith) (omega arith)

-- ---- the meet of valid tuples is valid

meet_placed : (r : ℕ) (x y : Range) → Placed r x → Placed r y → common_of x y ≡ true → Placed r (Range.meet_of x y)
unfolding Range.meet_of
meet_placed r x y p q e =
    let m : Range = Range.meet_of x y in
    let v = meet_valid x y p.valid q.valid e in
    let order = (dominates_parts m.high m.low (valid_parts m v).order).hierarchy in
    let low = upper_hierarchy x.low y.low in
    let high = lower_hierarchy x.high y.high in
    let top = valid_hierarchy x.high (valid_parts x p.valid).high in
    record {
      valid = v;
      low = between r m.low.hierarchy x.low.hierarchy x.high.hierarchy p.low p.high top (omega arith) (omega arith);
      high = between r m.high.hierarchy x.low.hierarchy x.high.hierarchy p.low p.high top (omega arith) (omega arith);
    }

meet_at_valid : (r : ℕ) (e f : RegionRange) → valid_at r e ≡ true → valid_at r f ≡ true → valid_at r (meet_at e f) ≡ true
unfolding meet_at
meet_at_valid r e f v w = go (is_there e && is_there f && common_of e.range f.range) refl
  where
    go : (p : Bool) → (is_there e && is_there f && common_of e.range f.range) ≡ p → valid_at r (cond p (present (Range.meet_of e.range f.range)) absent) ≡ true
    go false h = absent_valid r
    go true h =
        let t = three_true (is_there e) (is_there f) (common_of e.range f.range) h in
        placed_valid r (Range.meet_of e.range f.range) (meet_placed r e.range f.range (valid_placed r e t.0 v) (valid_placed r f t.1 w) t.2)

pub tuple_meet_valid : (t u : Tuple) → valid_of t ≡ true → valid_of u ≡ true → valid_of (meet_of t u) ≡ true
unfolding meet_of
tuple_meet_valid t u v w =
    tabulated_valid (λ r. meet_at (region_range_at t r) (region_range_at u r)) (λ r k. meet_at_valid r (region_range_at t r) (region_range_at u r) (valid_region t v r k) (valid_region u w r k))

-- ---- it contains exactly the common labels

meet_at_labels : (e f : RegionRange) (l : Label) → contains_at (meet_at e f) l ≡ (contains_at e l && contains_at f l)
unfolding meet_at contains_at
meet_at_labels e f l = go (is_there e) (is_there f) (common_of e.range f.range) refl
  where
    go : (p q k : Bool) → common_of e.range f.range ≡ k
        → contains_at (cond (p && q && k) (present (Range.meet_of e.range f.range)) absent) l ≡ ((p && Range.contains_of e.range l) && (q && Range.contains_of f.range l))
    go true true true h = meet_labels e.range f.range l
    go true true false h =
        sym (not_so (Range.contains_of e.range l && Range.contains_of f.range l) (λ c. true≢false (sym (common_label e.range f.range l c) ∙ h)))
    go true false k h = sym (and-false (Range.contains_of e.range l))
    go false q k h = refl

pub tuple_meet_labels : (t u : Tuple) (l : Label) → contains_of (meet_of t u) l ≡ (contains_of t l && contains_of u l)
unfolding contains_of meet_of
tuple_meet_labels t u l =
    let r : ℕ = region_of l.hierarchy in
    ap (λ (e : RegionRange). contains_at e l) (range_of_lem (λ k. meet_at (region_range_at t k) (region_range_at u k)) r (region_within l.hierarchy).known)
    ∙ meet_at_labels (region_range_at t r) (region_range_at u r) l

-- ---- what a tuple contains, by the region

pub record Contains (e : RegionRange) (l : Label) : Type 0 where
  pub present : is_there e ≡ true
  pub range : Range.contains_of e.range l ≡ true

contains_at_parts : (e : RegionRange) (l : Label) → contains_at e l ≡ true → Contains e l
unfolding contains_at
contains_at_parts e l h = record { present = first_true (is_there e) _ h; range = second_true (is_there e) (Range.contains_of e.range l) h }

contained : (t : Tuple) (l : Label) → contains_of t l ≡ true → Contains (region_range_at t (region_of l.hierarchy)) l
unfolding contains_of
contained t l h = contains_at_parts (region_range_at t (region_of l.hierarchy)) l h

-- of a label of region r
contained_in : (t : Tuple) (l : Label) (r : ℕ) → region_of l.hierarchy ≡ r → contains_of t l ≡ true → Contains (region_range_at t r) l
contained_in t l r e h = subst (λ (k : ℕ). Contains (region_range_at t k) l) e (contained t l h)

contains_in : (t : Tuple) (l : Label) (r : ℕ) → region_of l.hierarchy ≡ r → Contains (region_range_at t r) l → contains_of t l ≡ true
unfolding contains_of contains_at
contains_in t l r e c = rw e (both c.present c.range)

-- a label in a valid tuple is valid
pub contained_valid : (t : Tuple) (l : Label) → valid_of t ≡ true → contains_of t l ≡ true → Label.valid_of l ≡ true
contained_valid t l v h =
    let r : ℕ = region_of l.hierarchy in
    let c = contained t l h in
    contains_valid (region_range_at t r).range l (valid_placed r (region_range_at t r) c.present (valid_region t v r (region_within l.hierarchy).known)).valid c.range

-- ---- within exactly if each label of the one is in the other

pub record Inside (e f : RegionRange) : Type 0 where
  pub present : is_there f ≡ true
  pub high : dominates_of f.range.high e.range.high ≡ true
  pub low : dominates_of e.range.low f.range.low ≡ true

within_inside : (e f : RegionRange) → is_there e ≡ true → within_at e f ≡ true → Inside e f
unfolding within_at
within_inside e f p h =
    let t = three_true (is_there f) (dominates_of f.range.high e.range.high) (dominates_of e.range.low f.range.low) (rw p at h) in
    record { present = t.0; high = t.1; low = t.2 }

inside_within : (e f : RegionRange) → (is_there e ≡ true → Inside e f) → within_at e f ≡ true
unfolding within_at
inside_within e f h = go (is_there e) refl
  where
    go : (p : Bool) → is_there e ≡ p
        → (not p || (is_there f && dominates_of f.range.high e.range.high && dominates_of e.range.low f.range.low)) ≡ true
    go false q = refl
    go true q = let i = h q in both (both i.present i.high) i.low

-- each label of t that is a value of the code's type is in u
abbrev pub EachLabel : Tuple → Tuple → Type 0
EachLabel t u = (l : Label) → Typed l → Label.valid_of l ≡ true → contains_of t l ≡ true → contains_of u l ≡ true

within_labels : (t u : Tuple) → within_of t u ≡ true → (l : Label) → contains_of t l ≡ true → contains_of u l ≡ true
unfolding within_of
within_labels t u w l h =
    let r : ℕ = region_of l.hierarchy in
    let a = contained t l h in
    let c = contains_parts (region_range_at t r).range l a.range in
    let i = within_inside (region_range_at t r) (region_range_at u r) a.present (every_at (λ k. within_at (region_range_at t k) (region_range_at u k)) regions r w (region_within l.hierarchy).known) in
    contains_in u l r refl (record {
      present = i.present;
      range = parts_contain (region_range_at u r).range l (record {
        below = dominates_trans (region_range_at u r).range.high (region_range_at t r).range.high l i.high c.below;
        above = dominates_trans l (region_range_at t r).range.low (region_range_at u r).range.low c.above i.low;
      });
    })

-- a label in t's range of region r is in u's
label_carried : (t u : Tuple) → EachLabel t u → (r : ℕ) → is_there (region_range_at t r) ≡ true → (l : Label) → Typed l → Label.valid_of l ≡ true
    → region_of l.hierarchy ≡ r → Range.contains_of (region_range_at t r).range l ≡ true → Contains (region_range_at u r) l
label_carried t u h r p l s v e c = contained_in u l r e (h l s v (contains_in t l r e (record { present = p; range = c })))

labels_inside : (t u : Tuple) → TypedTuple t → valid_of t ≡ true → EachLabel t u → (r : ℕ) → r < regions → is_there (region_range_at t r) ≡ true → Inside (region_range_at t r) (region_range_at u r)
labels_inside t u s v h r k p =
    let x : Range = (region_range_at t r).range in
    let placed = placed_region t v r k p in
    let parts = valid_parts x placed.valid in
    let low = label_carried t u h r p x.low (s.range r k).low parts.low placed.low (contains_low x placed.valid) in
    let high = label_carried t u h r p x.high (s.range r k).high parts.high placed.high (contains_high x placed.valid) in
    record {
      present = low.present;
      high = (contains_parts (region_range_at u r).range x.high high.range).below;
      low = (contains_parts (region_range_at u r).range x.low low.range).above;
    }

pub within_exact : (t u : Tuple) → TypedTuple t → valid_of t ≡ true → (within_of t u ≡ true) ↔ EachLabel t u
unfolding within_of
within_exact t u s v =
    (λ w l tl vl h. within_labels t u w l h, λ h. every_all (λ r. within_at (region_range_at t r) (region_range_at u r)) regions (λ r k. inside_within (region_range_at t r) (region_range_at u r) (labels_inside t u s v h r k)))

-- ---- empty exactly if there is no label

pub empty_none : (t : Tuple) (l : Label) → empty_of t ≡ true → contains_of t l ≡ true → ⊥
unfolding empty_of
empty_none t l w h =
    let n = every_at (λ r. not (is_there (region_range_at t r))) regions (region_of l.hierarchy) w (region_within l.hierarchy).known in
    true≢false (sym n ∙ ap not (contained t l h).present)

pub empty_exact : (t : Tuple) → TypedTuple t → valid_of t ≡ true → (empty_of t ≡ true) ↔ ((l : Label) → Typed l → Label.valid_of l ≡ true → contains_of t l ≡ true → ⊥)
unfolding empty_of
empty_exact t s v = (λ w l tl vl. empty_none t l w, λ h. every_all (λ r. not (is_there (region_range_at t r))) regions (back h))
  where
    back : ((l : Label) → Typed l → Label.valid_of l ≡ true → contains_of t l ≡ true → ⊥) → (r : ℕ) → r < regions → not (is_there (region_range_at t r)) ≡ true
    back h r k = ap not (not_so (is_there (region_range_at t r)) (λ p.
        let x : Range = (region_range_at t r).range in
        let placed = placed_region t v r k p in
        h x.low (s.range r k).low (valid_parts x placed.valid).low
        (contains_in t x.low r placed.low (record { present = p; range = contains_low x placed.valid }))))

-- ---- the tuple of a range

part_placed : (x : Range) (r : ℕ) → r < regions → Range.valid_of x ≡ true → reaches x r ≡ true → Placed r (region_part x r)
part_placed x r k v h =
    let a = leb-true (first_hierarchy r) x.high.hierarchy (first_true (leb (first_hierarchy r) x.high.hierarchy) _ h) in
    let b = leb-true x.low.hierarchy (last_hierarchy r) (second_true (leb (first_hierarchy r) x.high.hierarchy) _ h) in
    let o = region_order r k in
    let parts = valid_parts x v in
    let d = dominates_parts x.high x.low parts.order in
    let dh = d.hierarchy in
    record {
      valid = parts_valid (region_part x r) (record {
        low = hierarchy_valid (region_part x r).low (omega arith);
        high = hierarchy_valid (region_part x r).high (omega arith);
        order = parts_dominate (region_part x r).high (region_part x r).low (record { hierarchy = omega arith; categories = d.categories });
      });
      low = region_unique r _ k (omega arith) (omega arith);
      high = region_unique r _ k (omega arith) (omega arith);
    }

cut_valid : (x : Range) (r : ℕ) → r < regions → Range.valid_of x ≡ true → valid_at r (cut_of x r) ≡ true
unfolding cut_of
cut_valid x r k v = go (reaches x r) refl
  where
    go : (p : Bool) → reaches x r ≡ p → valid_at r (cond p (present (region_part x r)) absent) ≡ true
    go true h = placed_valid r (region_part x r) (part_placed x r k v h)
    go false h = absent_valid r

pub split_valid : (x : Range) → Range.valid_of x ≡ true → valid_of (split_of x) ≡ true
unfolding split_of
split_valid x v = tabulated_valid (cut_of x) (λ r k. cut_valid x r k v)

-- of two ranges whose ends have the same categories, the second contains a label of the first where its hierarchies allow it
contains_by_hierarchy : (x y : Range) (l : Label) → x.high.categories ≡ y.high.categories → x.low.categories ≡ y.low.categories
    → (l.hierarchy ≤ x.high.hierarchy → l.hierarchy ≤ y.high.hierarchy) → (x.low.hierarchy ≤ l.hierarchy → y.low.hierarchy ≤ l.hierarchy)
    → Range.contains_of x l ≡ true → Range.contains_of y l ≡ true
contains_by_hierarchy x y l eh el fh fl c =
    let s = contains_parts x l c in
    let a = dominates_parts x.high l s.below in
    let b = dominates_parts l x.low s.above in
    parts_contain y l (record {
      below = parts_dominate y.high l (record { hierarchy = fh a.hierarchy; categories = rw (← eh) a.categories });
      above = parts_dominate l y.low (record { hierarchy = fl b.hierarchy; categories = rw (← el) b.categories });
    })

-- a label of region r is in x exactly if it is in x's part there
cut_labels : (x : Range) (l : Label) (r : ℕ) → first_hierarchy r ≤ l.hierarchy → (Range.contains_of x l ≡ true → l.hierarchy ≤ last_hierarchy r) → contains_at (cut_of x r) l ≡ Range.contains_of x l
unfolding cut_of contains_at
cut_labels x l r f k = go (reaches x r) refl
  where
    go : (p : Bool) → reaches x r ≡ p → contains_at (cond p (present (region_part x r)) absent) l ≡ Range.contains_of x l
    go true h =
        same_truth (Range.contains_of (region_part x r) l) (Range.contains_of x l)
        (contains_by_hierarchy (region_part x r) x l refl refl (λ u. omega arith) (λ u. omega arith))
        (λ c. let last = k c in contains_by_hierarchy x (region_part x r) l refl refl (λ u. omega arith) (λ u. omega arith) c)
    go false h =
        sym (not_so (Range.contains_of x l) (λ c.
        let last = k c in
        let s = contains_parts x l c in
        let a = (dominates_parts x.high l s.below).hierarchy in
        let b = (dominates_parts l x.low s.above).hierarchy in
        true≢false (sym (both (le-leb (first_hierarchy r) x.high.hierarchy (omega arith)) (le-leb x.low.hierarchy (last_hierarchy r) (omega arith))) ∙ h)))

pub split_labels : (x : Range) (l : Label) → Range.valid_of x ≡ true → contains_of (split_of x) l ≡ Range.contains_of x l
unfolding split_of contains_of
split_labels x l v =
    let r : ℕ = region_of l.hierarchy in
    let w = region_within l.hierarchy in
    ap (λ (e : RegionRange). contains_at e l) (range_of_lem (cut_of x) r w.known) ∙ cut_labels x l r w.first (λ c. w.last (valid_hierarchy l (contains_valid x l v c)))

-- what a tuple has for the region of a label is asked for the label
pub contains_by_region : (t : Tuple) (l : Label) (r : ℕ) → r ≡ region_of l.hierarchy → contains_at (region_range_at t r) l ≡ contains_of t l
unfolding contains_of
contains_by_region t l r e = ap (λ (n : ℕ). contains_at (region_range_at t n) l) e

-- A word that is 0 from bit `below` on is passed (`next_pass`), else its lowest set bit is the category (`next_hit`), and past the last word
-- there is none (`next_end`).
use borrow.Author.Rules.{rules}
use mathlib.Core.Path.{◌≡◌, sym, ap, ◌∙◌}
use Prim.Native.Nat.{ℕ, ◌+◌, ◌*◌}
use native.Mathlib.Nat.{add-zero, pos_of_ne-zero}
use native.Mathlib.Omega.{arith}
use lib.ListN.{length}
use mir.Syntax.{w64}
use mir.Val.{Fits}
use Rattle.std.specs.Prelude.{Some}
use Rattle.label.specs.Words.{next_category_from, word_at, words}
use Rattle.label.proofs.ListingLaws.{next_end, next_hit, next_pass}
use Rattle.label.proofs.words.next.Goals as goal

pub returns-then-w-ne0 : goal.returns-then-w-ne0
returns-then-w-ne0 c =
    let a = c.args.a in
    let i = c.loop-i.i in
    let l : length a ≡ words = search rules in
    let fits : Fits w64 (word_at a i) = search rules in
    ap (λ (n : ℕ). Some (i * 64 + c.loop-i.below + n)) c.from.ensures
    ∙ next_hit a i c.loop-i.below (omega arith) fits.fits (pos_of_ne-zero c.if-w-ne0.true) ∙ sym c.loop-i.invariant.1

pub loop-i-preserved : goal.loop-i-preserved
loop-i-preserved c =
    let a = c.args.a in
    let i = c.loop-i.i in
    let l : length a ≡ words = search rules in
    (search rules, c.loop-i.invariant.1 ∙ next_pass a i c.loop-i.below (omega arith) (omega arith) c.if-w-ne0.false ∙ ap (next_category_from a) (sym (add-zero ((i + 1) * 64))))

pub returns : goal.returns
returns c =
    let a = c.args.a in
    let l : length a ≡ words = search rules in
    sym (c.loop-i.invariant.1 ∙ next_end a (c.loop-i.i * 64 + c.loop-i.below) (omega arith))

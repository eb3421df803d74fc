-- What a chain of tests gives, where b is what a test answered and s what it stands for.
use mathlib.Core.Bool.{Bool, true, false, cond}
use mathlib.Core.Path.{◌≡◌, sym, ◌∙◌}

module _ {A : Type 0} (b s : Bool) (x y r : A) (is : b ≡ s) where
  pub taken : b ≡ true → r ≡ x → r ≡ cond s x y
  taken h e = rw (sym is ∙ h) e

  pub left : b ≡ false → r ≡ y → r ≡ cond s x y
  left h e = rw (sym is ∙ h) e

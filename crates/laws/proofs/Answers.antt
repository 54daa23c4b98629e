-- At most one answer meets a promise that is an equation.
-- Assumes nothing.
use mathlib.Core.Path.{◌≡◌, sym, ◌∙◌}

-- two answers that are both the same thing are equal
pub one_answer {ℓ} : {A : Type ℓ} (a x y : A) → x ≡ a → y ≡ a → x ≡ y
one_answer a x y e f = e ∙ sym f

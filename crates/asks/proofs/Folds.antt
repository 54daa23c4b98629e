-- A fold that passes over all numbers below n and keeps whether one passed the test.
-- Assumes nothing.
use mathlib.Core.Path.{◌≡◌, refl, ◌∙◌}
use mathlib.Core.Bool.{Bool, true, false, ◌||◌}
use mathlib.Core.List.{List, [], ◌∷◌}
use Prim.Native.Nat.{ℕ}
use Rattle.std.specs.List.{fold, list_any, range_with_len}
use Rattle.laws.specs.Search.{some_below}
use Rattle.laws.proofs.Chains.{any_below}

module _ (f : ℕ → Bool) where
  kept : (l : List ℕ) → fold (λ (a : Bool) (x : ℕ). a || f x) true l ≡ true
  kept [] = refl
  kept (x ∷ l) = kept l

  after : (l : List ℕ) → fold (λ (a : Bool) (x : ℕ). a || f x) false l ≡ list_any f l → (b : Bool) → fold (λ (a : Bool) (x : ℕ). a || f x) b l ≡ (b || list_any f l)
  after l e true = kept l
  after l e false = e

  seen : (l : List ℕ) → fold (λ (a : Bool) (x : ℕ). a || f x) false l ≡ list_any f l
  seen [] = refl
  seen (x ∷ l) = after l (seen l) (f x)

  pub fold_below : (n : ℕ) → fold (λ (a : Bool) (x : ℕ). a || f x) false (range_with_len 0 n) ≡ some_below n f
  fold_below n = seen (range_with_len 0 n) ∙ any_below f n

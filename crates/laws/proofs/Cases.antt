-- Case analysis: on a test, on two numbers, and of a choice.
-- Assumes nothing.
use mathlib.Core.Path.{◌≡◌, refl}
use mathlib.Core.Bool.{Bool, true, false}
use mathlib.Core.Logic.{◌≢◌, by_cases}
use Prim.Native.Nat.{ℕ, ◌≤◌, ◌<◌}
use native.Mathlib.Decide.{ℕ_discrete, dec_lt}
use native.Mathlib.Omega.{arith}
use Rattle.laws.specs.Choice.{pick}

pub split {ℓ} : {P : Type ℓ} (b : Bool) → (b ≡ true → P) → (b ≡ false → P) → P
split true f g = f refl
split false f g = g refl

pub same? {ℓ} : {P : Type ℓ} (i j : ℕ) → (i ≡ j → P) → (i ≢ j → P) → P
same? i j f g = by_cases (ℕ_discrete i j) f g

pub below? {ℓ} : {P : Type ℓ} (i n : ℕ) → (i < n → P) → (n ≤ i → P) → P
below? i n f g = by_cases (dec_lt i n) f (λ h. g (omega arith))

-- a fact of a choice, whatever it turns on
pub pick_both {ℓ κ} : {A : Type ℓ} (P : A → Type κ) (b : Bool) {x y : A} → (b ≡ true → P x) → (b ≡ false → P y) → P (pick b x y)
pick_both P true f g = f refl
pick_both P false f g = g refl

pub pick_yes {ℓ} : {A : Type ℓ} {b : Bool} (x y : A) → b ≡ true → pick b x y ≡ x
pick_yes x y e = rw e

pub pick_not {ℓ} : {A : Type ℓ} {b : Bool} (x y : A) → b ≡ false → pick b x y ≡ y
pick_not x y e = rw e

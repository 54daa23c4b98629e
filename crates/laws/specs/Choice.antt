-- Choices, tests as statements, and a number read from a list.
-- Assumes nothing.
use Rattle.std.specs.Prelude.{◌≡◌, Bool, true, false, List, ℕ, get_or}

-- one of two values
abbrev pub pick {ℓ} : {A : Type ℓ} → Bool → A → A → A
pick true a b = a
pick false a b = b

-- if the first test passes, the second does
infixr 25 ◌⇒◌
abbrev pub ◌⇒◌ : Bool → Bool → Bool
true ⇒ b = b
false ⇒ b = true

-- the test passes exactly if the statement holds
infix 20 ◌⇔◌
abbrev pub ◌⇔◌ {ℓ} : Bool → Type ℓ → Type ℓ
b ⇔ P = (b ≡ true → P) × (P → b ≡ true)

-- a number read from a list: 0 past its end
abbrev pub at : List ℕ → ℕ → ℕ
at l i = get_or l i 0

-- A number that is none of those that a match names.
-- Assumes nothing.
use mathlib.Core.Path.{◌≡◌}
use Prim.Native.Nat.{ℕ, zero, suc, ◌≤◌}
use native.Mathlib.Omega.{arith}

-- k is none of 1 to n
abbrev pub Others : ℕ → ℕ → Type 0
Others k zero = Unit {0}
Others k (suc n) = Others k n × (k ≡ suc n → ⊥)

pub none_left : (k n : ℕ) → Others k n → k ≤ n → k ≡ 0
none_left k zero r h = omega arith
none_left k (suc n) r h = none_left k n r.0 (omega (arith, r.1))

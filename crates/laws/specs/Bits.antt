-- A number as a row of marks: digit n marks n.
-- Assumes nothing.
use Rattle.std.specs.Prelude.{Bool, ℕ, ◌+◌, ◌-◌, ◌/◌, ◌%◌, ◌^◌, eqb}
use Rattle.laws.specs.Choice.{pick}

-- digit n of the number
unfoldable pub bit : ℕ → ℕ → ℕ
bit m n = m / 2 ^ n % 2

abbrev pub marks : ℕ → ℕ → Bool
marks m n = eqb (bit m n) 1

-- the number with n marked, and with n not marked
unfoldable pub marked : ℕ → ℕ → ℕ
marked m n = pick (marks m n) m (m + 2 ^ n)

unfoldable pub unmarked : ℕ → ℕ → ℕ
unmarked m n = pick (marks m n) (m - 2 ^ n) m

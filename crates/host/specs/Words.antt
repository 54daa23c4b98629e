-- A number of four bytes stored in a list. Nothing here knows a field.
-- Assumes nothing.
use Rattle.std.specs.Prelude.{List, ℕ, ◌+◌, ◌/◌, ◌%◌, ◌^◌, set}
use Rattle.model.specs.Sizes.{byte_bound}

-- the number v stored at a, low byte first
abbrev pub set_word : List ℕ → ℕ → ℕ → List ℕ
set_word s a v =
    set (set (set (set s a (v % byte_bound)) (a + 1) (v / byte_bound % byte_bound)) (a + 2) (v / byte_bound ^ 2 % byte_bound)) (a + 3) (v / byte_bound ^ 3)

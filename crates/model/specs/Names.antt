-- docs/HOST.md, "Sizes and state": the numbers that stand for owners, kinds, modes and write policies.
-- Assumes nothing.
use Rattle.std.specs.Prelude.{ℕ, ◌+◌}

-- the owner of a page: none, the host, or a guest
abbrev pub owner_none : ℕ
owner_none = 0

abbrev pub owner_host : ℕ
owner_host = 1

abbrev pub owner_guest : ℕ → ℕ
owner_guest g = 2 + g

-- the kind of a page: none, data, table
abbrev pub kind_none : ℕ
kind_none = 0

abbrev pub kind_data : ℕ
kind_data = 1

abbrev pub kind_table : ℕ
kind_table = 2

-- the active guest waits, and the host has control; or it runs
abbrev pub waiting : ℕ
waiting = 0

abbrev pub running : ℕ
running = 1

-- a write to a line does not write memory, or does
abbrev pub write_back : ℕ
write_back = 0

abbrev pub write_through : ℕ
write_through = 1

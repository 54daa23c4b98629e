-- A set's history: which way is the next to be taken out. Only this file knows that it is a way's number.
-- Assumes nothing.
use Rattle.std.specs.Prelude.{ℕ, suc, ltb}
use Rattle.laws.specs.Choice.{pick}
use Rattle.model.specs.Sizes.{ways}

abbrev pub start : ℕ
start = 0

-- the numbers that a history may be
abbrev pub histories : ℕ
histories = ways

-- the way that the history names
abbrev pub oldest : ℕ → ℕ
oldest h = h

-- after a hit in way w: as it was
abbrev pub used : ℕ → ℕ → ℕ
used h w = h

-- after a line entered way w: the next way, after the last the first
abbrev pub entered : ℕ → ℕ → ℕ
entered h w = pick (ltb (suc w) ways) (suc w) 0

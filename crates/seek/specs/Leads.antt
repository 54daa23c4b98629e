-- To what a place leads, and what is sought among places.
-- Assumes nothing.
use Rattle.std.specs.Prelude.{Bool, true, ◌&&◌, not, ℕ, ◌+◌, ◌*◌, eqb}
use Rattle.laws.specs.Choice.{at, ◌⇒◌}
use Rattle.model.specs.Sizes.{physicals}
use Rattle.model.specs.State.{State}
use Rattle.numbers.specs.Lead.{lead_of, leads_at}
use Rattle.std.specs.Prelude.{Option}
use Rattle.numbers.specs.declared.Ma.{Ma}
use Rattle.std.specs.Prelude.{Some, None}

-- to a page, or the place is empty
abbrev pub placed : Option Ma → Bool → Bool
placed (Some p) empty = true
placed None empty = empty

-- ---- searches: at physical address i, and at line i

-- guest g's physical address i leads to page p
unfoldable pub held_at : State → ℕ → ℕ → ℕ → Bool
held_at s g p i = leads_at (lead_of (at s.shape.pages.physical (physicals * g + i))) p

-- the same, i being another than a
unfoldable pub held_away : State → ℕ → ℕ → ℕ → ℕ → Bool
held_away s g a p i = not (leads_at (lead_of (at s.shape.pages.physical (physicals * g + i))) p ⇒ eqb a i)

-- line i, being another than j, has the key of address a and page p
unfoldable pub key_at : ℕ → ℕ → ℕ → State → ℕ → Bool
key_at j a p s i = not (leads_at (lead_of (at s.shape.cache.line_page i)) p && eqb a (at s.shape.cache.line_address i) ⇒ eqb j i)

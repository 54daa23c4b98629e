-- What a place that holds a page plus one leads to, as an answer of code, and what is stored for it.
-- Assumes nothing.
use Rattle.std.specs.Prelude.{Bool, false, ℕ, suc, eqb}
use Rattle.laws.specs.Choice.{pick}
use Rattle.model.specs.State.{lead, nowhere, is_page}
use Rattle.numbers.specs.declared.Ma.{Ma}
use Rattle.std.specs.Prelude.{Option}
use Rattle.std.specs.Prelude.{Some, None}

abbrev pub ma : ℕ → Ma
ma p = record { 0 = p }

-- of a number that is a page, or nowhere
abbrev pub toward : ℕ → Option Ma
toward p = pick (is_page p) (Some (ma p)) None

abbrev pub lead_of : ℕ → Option Ma
lead_of e = toward (lead e)

-- the page plus one, 0 for nowhere and for a number that is no page
abbrev pub held_of : Option Ma → ℕ
held_of (Some p) = pick (is_page p.0) (suc p.0) 0
held_of None = 0

-- as the model's number: the page, or nowhere
abbrev pub place_of : Option Ma → ℕ
place_of (Some p) = p.0
place_of None = nowhere

-- the lead is to page p
abbrev pub leads_at : Option Ma → ℕ → Bool
leads_at (Some q) p = eqb q.0 p
leads_at None p = false

-- What rules 7, 8, 9 and 11 test at one line or slot of a state.
-- Assumes nothing.
use Rattle.std.specs.Prelude.{Bool, ◌&&◌, not, ℕ, ◌+◌, ◌*◌, ◌/◌, ltb, eqb}
use Rattle.laws.specs.Choice.{pick, at, ◌⇒◌}
use Rattle.laws.specs.Search.{some_below}
use Rattle.model.specs.Sizes.{addresses, ways, lines, stealth, set_of, slot_of}
use Rattle.model.specs.Names.{kind_data}
use Rattle.model.specs.State.{State, lead, is_page, is_through, table, stealth_line}
use Rattle.model.specs.RuleTests.{leads_to}
use Rattle.numbers.specs.Lead.{lead_of, leads_at}
use Rattle.asks.specs.Maps.{maps_page_of}

-- 7, at line i with the key (a, p)
unfoldable pub lined_by : State → ℕ → ℕ → ℕ → Bool
lined_by s i a p =
    ltb a addresses && eqb (set_of a) (i / ways) && eqb (at s.shape.pages.cacheable p) 1 && eqb (at s.shape.pages.kind p) kind_data
    && maps_page_of s.shape (λ v. eqb v a) p
    && not (some_below lines (λ j. not (leads_at (lead_of (at s.shape.cache.line_page j)) p && eqb a (at s.shape.cache.line_address j) ⇒ eqb i j)))

unfoldable pub lined : State → ℕ → Bool
lined s i = leads_to (at s.shape.cache.line_page i) (lined_by s i (at s.shape.cache.line_address i))

-- 8, at slot i, for the table in force m
unfoldable pub slot_by : State → ℕ → ℕ → ℕ → ℕ → Bool
slot_by s m i a p =
    ltb a addresses && eqb (slot_of a) i && is_page m && leads_at (lead_of (at s.shape.pages.entry (addresses * m + a))) p

unfoldable pub slotted : State → ℕ → Bool
slotted s i = leads_to (at s.shape.tlb.slot_page i) (slot_by s (table s.shape) i (at s.shape.tlb.slot_address i))

-- 9, at way 0, for the stealth page p
unfoldable pub first_way : State → ℕ → Bool
first_way s p =
    pick (is_page p) (leads_at (lead_of (at s.shape.cache.line_page stealth_line)) p && eqb (at s.shape.cache.line_address stealth_line) stealth)
    (eqb (at s.shape.cache.line_page stealth_line) 0)

-- 11, at line i
unfoldable pub through : State → ℕ → Bool
through s i =
    is_through s.shape && is_page (lead (at s.shape.cache.line_page i))
    ⇒ eqb (at s.values.line i) (at s.values.memory (lead (at s.shape.cache.line_page i)))

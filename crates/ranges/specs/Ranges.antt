-- What rule 10 tests at one place of a state: numbers in range, empty places zero.
-- Assumes nothing.
use Rattle.std.specs.Prelude.{Bool, true, ◌&&◌, List, [], ◌∷◌, ℕ, suc, ◌+◌, ◌*◌, ◌/◌, ◌%◌, ltb, eqb, length}
use Rattle.laws.specs.Choice.{pick, at}
use Rattle.model.specs.Sizes.{guests, physicals, pages, addresses, calls, call_a_bound, call_b_bound, marks_bound, policies}
use Rattle.model.specs.Names.{owner_guest, kind_table, running}
use Rattle.model.specs.State.{State}
use Rattle.model.specs.History.{histories}
use Rattle.model.specs.RuleTests.{fits, rule10_at_line, rule10_at_slot}
use Rattle.host.specs.View.{column, active_field, mode_field, policy_field}

unfoldable pub page_in_range : State → ℕ → Bool
page_in_range s p =
    ltb (at s.shape.pages.owner p) (owner_guest guests) && ltb (at s.shape.pages.kind p) (suc kind_table)
    && ltb (at s.shape.pages.cacheable p) marks_bound

unfoldable pub place_in_range : State → ℕ → Bool
place_in_range s i = ltb (at s.shape.pages.physical (physicals * (i / physicals) + i % physicals)) (suc pages)

unfoldable pub guest_in_range : State → ℕ → Bool
guest_in_range s g =
    let G = s.shape.guests in
    ltb (at G.current g) physicals && ltb (at G.call g) calls && ltb (at G.call_a g) call_a_bound && ltb (at G.call_b g) call_b_bound
    && fits (at G.call g) (at G.call_a g) (at G.call_b g)

unfoldable pub line_in_range : State → ℕ → Bool
line_in_range s i =
    let C = s.shape.cache in
    ltb (at C.line_address i) addresses && ltb (at C.line_page i) (suc pages)
    && rule10_at_line s i

unfoldable pub set_in_range : State → ℕ → Bool
set_in_range s k = ltb (at s.shape.cache.history k) histories

unfoldable pub slot_in_range : State → ℕ → Bool
slot_in_range s i =
    let T = s.shape.tlb in
    ltb (at T.slot_address i) addresses && ltb (at T.slot_page i) (suc pages) && rule10_at_slot s i

unfoldable pub entry_in_range : State → ℕ → ℕ → Bool
entry_in_range s m va = ltb (at s.shape.pages.entry (addresses * m + va)) (suc pages)

-- ---- a number by its field

-- the bounds of the fields that are lists of bytes, by their number; of the three among them that are none 1, since they have no number but 0
abbrev pub list_bounds : List ℕ
list_bounds =
    owner_guest guests ∷ suc kind_table ∷ marks_bound ∷ suc pages ∷ suc pages ∷ 1 ∷ physicals ∷ calls ∷ call_a_bound ∷ call_b_bound ∷ 1 ∷ 1 ∷ addresses ∷ suc pages
    ∷ histories
    ∷ addresses
    ∷ suc pages
    ∷ []

-- place i of field k: the active guest, the mode and the policy have one place, and the map and the values no bound that bytes could pass
unfoldable pub number_in_range : State → ℕ → ℕ → Bool
number_in_range s k i =
    pick (eqb k active_field) (ltb s.shape.guests.active guests)
    (pick (eqb k mode_field) (ltb s.shape.guests.mode (suc running))
    (pick (eqb k policy_field) (ltb s.shape.policy policies) (pick (ltb k (length list_bounds)) (ltb (at (column k s) i) (at list_bounds k)) true)))

-- new_sm.
-- Assumes nothing.
use Rattle.std.specs.Prelude.{◌||◌, not, List, [], ◌∷◌, ℕ, suc}
use Rattle.model.specs.Sizes.{stealth}
use Rattle.model.specs.State.{State, table, stealth_line}
use Rattle.model.specs.Checks.{Asked, Check}
use Rattle.model.specs.Parts.{shaped, set_entry, translate, clear_call, enter}

abbrev pub new_sm_checks : Asked → ℕ → List Check
new_sm_checks q pa =
    (7, not (q.registered pa)) ∷ (8, not (q.is_data pa)) ∷ (9, not (q.cacheable pa) || q.elsewhere pa) ∷ (10, q.maps stealth) ∷ []

-- Table, TLB and set 7 way 0 get the page. Call cleared.
unfoldable pub new_sm_step : State → ℕ → State
new_sm_step s p =
    let t = enter s stealth_line stealth p in
    shaped t (clear_call (translate (set_entry t.shape (table t.shape) stealth (suc p)) stealth p))

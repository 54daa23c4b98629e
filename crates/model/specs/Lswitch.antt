-- lswitch.
-- Assumes nothing.
use Rattle.std.specs.Prelude.{not, List, [], ◌∷◌, ℕ}
use Rattle.model.specs.State.{State}
use Rattle.model.specs.Checks.{Asked, Check}
use Rattle.model.specs.Parts.{shaped, set_current, clear_call, save_stealth, load_stealth}

abbrev pub lswitch_checks : Asked → ℕ → List Check
lswitch_checks q pa = (7, not (q.registered pa)) ∷ (8, not (q.is_table pa)) ∷ []

-- As switch, but the table changes and not the guest; call cleared.
unfoldable pub lswitch_step : State → ℕ → State
lswitch_step s pa =
    let t = save_stealth s in
    load_stealth (shaped t (clear_call (set_current t.shape pa)))

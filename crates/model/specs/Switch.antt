-- switch.
-- Assumes nothing.
use Rattle.std.specs.Prelude.{ℕ}
use Rattle.model.specs.State.{State}
use Rattle.model.specs.Parts.{shaped, set_active, save_stealth, load_stealth}

-- The line of set 7 taken out; the guest changes; its table's page at 7 enters set 7 from memory as it then stands; TLB emptied.
unfoldable pub switch_step : State → ℕ → State
switch_step s g =
    let t = save_stealth s in
    load_stealth (shaped t (set_active t.shape g))

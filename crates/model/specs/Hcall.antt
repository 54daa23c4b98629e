-- hcall.
-- Assumes nothing.
use Rattle.std.specs.Prelude.{ℕ}
use Rattle.model.specs.Names.{waiting}
use Rattle.model.specs.State.{State, active}
use Rattle.model.specs.Parts.{shaped, set_call, set_mode}

-- The call is stored, and the host has control.
unfoldable pub hcall_step : State → ℕ → ℕ → ℕ → State
hcall_step s c a b = shaped s (set_mode (set_call s.shape (active s.shape) c a b) waiting)

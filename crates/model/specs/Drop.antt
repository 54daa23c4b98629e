-- drop.
-- Assumes nothing.
use Rattle.std.specs.Prelude.{ℕ}
use Rattle.model.specs.State.{State}
use Rattle.model.specs.Records.{call_none}
use Rattle.model.specs.Parts.{shaped, set_call}

-- The named guest's call is cleared, the active one's or another's. Active guest and mode stay.
unfoldable pub drop_step : State → ℕ → State
drop_step s g = shaped s (set_call s.shape g call_none 0 0)

-- ret_ctrl.
-- Assumes nothing.
use Rattle.model.specs.Names.{waiting}
use Rattle.model.specs.State.{State}
use Rattle.model.specs.Parts.{shaped, set_mode}

-- The host has control.
unfoldable pub ret_ctrl_step : State → State
ret_ctrl_step s = shaped s (set_mode s.shape waiting)

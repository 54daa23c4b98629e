-- ret_ctrl keeps a state valid: the host has control, whatever is pending.
-- Assumes nothing.
use Rattle.model.specs.State.{State}
use Rattle.model.specs.RetCtrl.{ret_ctrl_step}
use Rattle.model.specs.Valid.{Valid}
use Rattle.keeps.proofs.Mode.{waits_valid}

pub ret_ctrl_step_valid : {s : State} → Valid s → Valid (ret_ctrl_step s)
unfolding ret_ctrl_step
ret_ctrl_step_valid v = waits_valid v

-- chmod keeps a state valid: the guest that runs has no pending call.
-- Assumes nothing.
use mathlib.Core.Path.{◌≡◌}
use native.Mathlib.Omega.{arith}
use Rattle.laws.specs.Choice.{at}
use Rattle.model.specs.State.{State, active}
use Rattle.model.specs.Chmod.{chmod_step}
use Rattle.model.specs.Valid.{Valid}
use Rattle.keeps.proofs.Mode.{set_mode_valid}

pub chmod_step_valid : {s : State} → Valid s → at s.shape.guests.call (active s.shape) ≡ 0 → Valid (chmod_step s)
unfolding chmod_step
chmod_step_valid v e = set_mode_valid v (omega arith) (λ m t. let z = t.some in omega arith)

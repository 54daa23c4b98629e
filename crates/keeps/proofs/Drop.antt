-- drop keeps a state valid: no rule asks that a guest have a call.
-- Assumes nothing.
use Prim.Native.Nat.{ℕ, ◌<◌}
use Rattle.model.specs.Sizes.{guests}
use Rattle.model.specs.State.{State}
use Rattle.model.specs.Drop.{drop_step}
use Rattle.model.specs.Valid.{Valid}
use Rattle.keeps.proofs.Calls.{none_valid}

pub drop_step_valid : {s : State} → Valid s → (g : ℕ) → g < guests → Valid (drop_step s g)
unfolding drop_step
drop_step_valid v g h = none_valid v h

-- switch leads from valid states to valid states: another guest fits as the active one while nobody runs.
-- Assumes nothing.
use mathlib.Core.Path.{◌≡◌}
use Prim.Native.Nat.{ℕ, ◌<◌}
use native.Mathlib.Omega.{arith}
use Rattle.model.specs.Sizes.{guests}
use Rattle.model.specs.Names.{waiting}
use Rattle.model.specs.State.{State}
use Rattle.model.specs.Parts.{take_out}
use Rattle.model.specs.Switch.{switch_step}
use Rattle.model.specs.Valid.{Valid}
use Rattle.keeps.proofs.Core.{core_of}
use Rattle.keeps.proofs.Parts.{guests_core}
use Rattle.keeps.proofs.Mode.{control_part}
use Rattle.keeps.proofs.Stealth.{saved, saved_core, loaded}

pub switch_step_valid : {s : State} → Valid s → (g : ℕ) → g < guests → s.shape.guests.mode ≡ waiting → Valid (switch_step s g)
unfolding switch_step take_out
switch_step_valid v g h m =
    loaded (guests_core (saved_core v) (control_part (core_of v) h v.rule10.guests.mode (λ r t. omega arith))) (saved v)

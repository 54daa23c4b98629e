-- hcall keeps a state valid: the call that is stored has arguments that fit, and the guest no longer runs.
-- Assumes nothing.
use Prim.Native.Nat.{ℕ}
use native.Mathlib.Omega.{arith}
use Rattle.model.specs.State.{State}
use Rattle.model.specs.Records.{CallInRange}
use Rattle.model.specs.Hcall.{hcall_step}
use Rattle.model.specs.Valid.{Valid}
use Rattle.model.proofs.Records.{in_call}
use Rattle.keeps.proofs.Calls.{set_call_valid}
use Rattle.keeps.proofs.Mode.{waits_valid}

-- the call is stored in the state that already waits
pub hcall_step_valid : {s : State} → Valid s → (c a b : ℕ) → CallInRange c a b → Valid (hcall_step s c a b)
unfolding hcall_step
hcall_step_valid v c a b r = let f = in_call c a b r in set_call_valid (waits_valid v) v.rule10.guests.active f.0 f.1 (λ m t. omega arith)

-- Who has control: another guest may be active, or the mode another, if a guest that runs has no pending call. The rest is as it was.
-- Assumes nothing.
use mathlib.Core.Path.{◌≡◌}
use Prim.Native.Nat.{ℕ, suc, ◌<◌}
use native.Mathlib.Omega.{arith}
use Rattle.laws.specs.Choice.{at}
use Rattle.model.specs.Sizes.{guests}
use Rattle.model.specs.Names.{waiting, running}
use Rattle.model.specs.State.{Guests, State, active, table}
use Rattle.model.specs.Parts.{shaped, set_mode}
use Rattle.model.specs.Rules.{Stored}
use Rattle.model.specs.Valid.{Valid}
use Rattle.keeps.proofs.Core.{Core, core_of, valid_of}
use Rattle.keeps.proofs.Parts.{GuestsOf, guests_core}

abbrev controlled : Guests → ℕ → ℕ → Guests
controlled G g m = record { current = G.current; call = G.call; call_a = G.call_a; call_b = G.call_b; active = g; mode = m }

pub control_part : {s : State} → Core s → {g m : ℕ} → g < guests → m < suc running → (m ≡ running → Stored (at s.shape.guests.call g) → ⊥)
    → GuestsOf s.shape (controlled s.shape.guests g m)
control_part c hg hm i =
    record {
      current = c.sized.current;
      call = c.sized.call;
      call_a = c.sized.call_a;
      call_b = c.sized.call_b;
      rule1 = record { idle = λ _. i; fits = c.rule1.fits };
      rule5 = c.rule5;
      ranges =
          record {
            current = c.rule10.guests.current;
            call = c.rule10.guests.call;
            call_a = c.rule10.guests.call_a;
            call_b = c.rule10.guests.call_b;
            arguments = c.rule10.guests.arguments;
            active = hg;
            mode = hm;
          };
    }

pub set_mode_valid : {s : State} → Valid s → {m : ℕ} → m < suc running → (m ≡ running → Stored (at s.shape.guests.call (active s.shape)) → ⊥)
    → Valid (shaped s (set_mode s.shape m))
unfolding table
set_mode_valid v h i = let c = core_of v in valid_of (guests_core c (control_part c c.rule10.guests.active h i)) v.rule8 v.rule9

-- whatever is pending, the host may take control
pub waits_valid : {s : State} → Valid s → Valid (shaped s (set_mode s.shape waiting))
waits_valid v = set_mode_valid v (omega arith) (λ m t. omega arith)

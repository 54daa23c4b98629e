-- del.
-- Assumes nothing.
use Rattle.std.specs.Prelude.{not, List, [], ◌∷◌, ℕ}
use Rattle.model.specs.Sizes.{reserved}
use Rattle.model.specs.State.{State, table}
use Rattle.model.specs.Checks.{Asked, Check}
use Rattle.model.specs.Parts.{shaped, set_entry, forget, clear_call, take_out}
use Rattle.model.specs.New.{old_line}

abbrev pub del_checks : Asked → ℕ → List Check
del_checks q va = (5, reserved va) ∷ (6, not (q.maps va)) ∷ []

-- va's line in this table taken out, entry and TLB entry removed, call cleared.
unfoldable pub del_step : State → ℕ → State
del_step s va =
    let t = take_out s (old_line s.shape va) in
    shaped t (clear_call (forget (set_entry t.shape (table t.shape) va 0) va))

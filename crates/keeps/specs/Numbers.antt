-- Checks of any bytes on any state as one list, 1 and 2 first; which of them apply.
-- Assumes nothing.
use Rattle.std.specs.Prelude.{◌≡◌, true, false, not, ◌⊎◌, List, [], ◌∷◌, ℕ}
use Rattle.std.proofs.Math.Option.{Option, none, some}
use Rattle.model.specs.State.{State}
use Rattle.model.specs.Records.{Action, decode}
use Rattle.model.specs.Valid.{valid?}
use Rattle.model.specs.Checks.{Check, asked}
use Rattle.model.specs.Step.{checks}

-- 2 for bytes that are no record, and the action's own checks for those that are
abbrev pub record_checks : State → Option Action → List Check
record_checks s none = (2, true) ∷ []
record_checks s (some x) = (2, false) ∷ checks (asked s.shape) x

abbrev pub all_checks : State → List ℕ → List Check
all_checks s l = (1, not (valid? s)) ∷ record_checks s (decode l)

-- the check with this number applies
abbrev pub Applies : ℕ → List Check → Type 0
Applies n [] = ⊥
Applies n (c ∷ cs) = ((c.0 ≡ n) × (c.1 ≡ true)) ⊎ Applies n cs

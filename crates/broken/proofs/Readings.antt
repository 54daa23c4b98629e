-- A finding of this crate and one of the model's are read as each other, and nothing is lost.
-- Assumes nothing.
use mathlib.Core.Path.{◌≡◌, refl, sym, ap, ◌∙◌}
use Prim.Native.Nat.{ℕ}
use Rattle.std.specs.Prelude.{Option, Some, None}
use Rattle.std.specs.Option.{MatchOption}
use Rattle.model.specs.Broken as model
use Rattle.broken.specs.declared.Finding.{Finding}
use Rattle.broken.specs.declared.Finding.TheVariants.{Holds, Broken, NoRule}
use Rattle.broken.specs.Findings.{finding_of, finding_from, finding_to}

to_from : (f : Finding) → finding_to (finding_from f) ≡ f
to_from Holds = refl
to_from (Broken k i) = refl
to_from NoRule = refl

from_to : (x : model.Finding) → finding_from (finding_to x) ≡ x
from_to model.holds = refl
from_to (model.broken k i) = refl
from_to model.no_rule = refl

pub found_to : (f : Finding) (x : model.Finding) → finding_from f ≡ x → f ≡ finding_to x
found_to f x e = sym (to_from f) ∙ ap finding_to e

pub found_from : (f : Finding) (x : model.Finding) → f ≡ finding_to x → finding_from f ≡ x
found_from f x e = ap finding_from e ∙ from_to x

-- what is told of a rule that there is
pub told_of : {Q : ℕ × ℕ → Type 0} (x : Option (ℕ × ℕ)) (f : Finding) → MatchOption x (f ≡ Holds) Q → ((y : ℕ × ℕ) → Q y → f ≡ Broken y.0 y.1) → f ≡ finding_to (finding_of x)
told_of None f h k = h
told_of (Some y) f h k = k y h

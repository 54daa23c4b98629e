-- At most one content of the lent bytes meets a promise about their view. (One answer only: `one_answer` of `laws`.)
-- Assumes nothing.
use mathlib.Core.Path.{◌≡◌, sym, ◌∙◌}
use mathlib.Core.List.{List}
use Prim.Native.Nat.{ℕ}
use Rattle.model.specs.State.{State}
use Rattle.host.specs.View.{view, Whole}
use Rattle.host.proofs.Inverse.{view_inj}

-- bytes that are both viewed as one state are equal; the type of the buffer makes any bytes Whole
pub one_content : (s : State) (xs ys : List ℕ) → Whole xs → Whole ys → view xs ≡ s → view ys ≡ s → xs ≡ ys
one_content s xs ys h k e f = view_inj xs ys h k (e ∙ sym f)

-- At most one value and one content of the bytes meets the promise of a read. The other functions promise equations: docs/ANSWERS.md.
-- Assumes nothing.
use mathlib.Core.Path.{◌≡◌, sym, ◌∙◌}
use mathlib.Core.List.{List}
use Prim.Native.Nat.{ℕ}
use Rattle.model.specs.State.{State}
use Rattle.host.specs.View.{view, Whole}
use Rattle.host.proofs.Inverse.{view_inj}
use Rattle.acts.specs.Reads.{Reads}

pub one_read : (s : State) (va p : ℕ) {v w : ℕ} {x y : List ℕ} → Whole x → Whole y → Reads s va p v (view x) → Reads s va p w (view y)
    → (v ≡ w) × (x ≡ y)
one_read s va p {x = x} {y = y} h k a b = (a.value ∙ sym b.value, view_inj x y h k (a.state ∙ sym b.state))

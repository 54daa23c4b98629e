-- At most one value and one content of the bytes meets the promise of an access. The other functions promise equations: docs/ANSWERS.md.
-- Assumes nothing.
use mathlib.Core.Path.{◌≡◌, sym, ◌∙◌}
use mathlib.Core.List.{List}
use Prim.Native.Nat.{ℕ}
use Rattle.model.specs.State.{State}
use Rattle.host.specs.View.{view, Whole}
use Rattle.host.proofs.Inverse.{view_inj}
use Rattle.std.specs.Prelude.{Option}
use Rattle.cache.specs.Lines.{Accesses}

pub one_access : (s : State) (va p : ℕ) (q : Option ℕ) {v w : ℕ} {x y : List ℕ} → Whole x → Whole y → Accesses s va p q v (view x)
    → Accesses s va p q w (view y)
    → (v ≡ w) × (x ≡ y)
one_access s va p q {x = x} {y = y} h k a b = (a.value ∙ sym b.value, view_inj x y h k (a.state ∙ sym b.state))

-- A page or nowhere: to what a lead is, and a step that is for pages only.
-- Assumes nothing.
use mathlib.Core.Path.{◌≡◌, ap}
use Prim.Native.Nat.{ℕ, ◌≤◌, ◌<◌}
use native.Mathlib.Omega.{arith}
use Rattle.laws.specs.Choice.{pick}
use Rattle.laws.proofs.Cases.{below?, pick_yes, pick_not}
use Rattle.laws.proofs.Tests.{lt⇔, not_so}
use Rattle.model.specs.Sizes.{pages}
use Rattle.model.specs.State.{State, is_page}
use Rattle.numbers.specs.declared.Ma.{Ma}
use Rattle.std.specs.Prelude.{Option}
use Rattle.std.specs.Prelude.{Some, None}
use Rattle.numbers.specs.Lead.{ma, toward}
use Rattle.numbers.proofs.Leads.{toward_page, toward_none}

module _ (n : ℕ) (l : Option Ma) (e : l ≡ toward n) where
  pub led_nowhere : l ≡ None → pages ≤ n
  led_nowhere f =
      below? n pages (λ h. let z : ◌≡◌ {A = ℕ} 0 1 = cc (e, f, toward_page n h) in absurd (omega arith)) (λ h. h)

-- a step that is for pages only
pub for_page : (p : ℕ) (x y : State) → p < pages → pick (is_page p) x y ≡ x
for_page p x y h = pick_yes x y ((lt⇔ p pages).1 h)

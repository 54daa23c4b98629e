-- The policy first, so that it is write-back where the image has none.
-- Assumes nothing.
use mathlib.Core.Path.{◌≡◌, ap, ◌∙◌}
use mathlib.Core.List.{List, ◌++◌}
use native.Mathlib.Omega.{arith}
use Prim.Native.Nat.{ℕ, ◌-◌}
use lib.ListN.{length, take, drop, length-drop}
use lib.Seq.{take_all}
use Rattle.model.specs.Sizes.{image_head_bytes}
use Rattle.model.specs.State.{State}
use Rattle.host.specs.View.{view, put_policy}
use Rattle.host.proofs.Numbers.{policy_get}
use Rattle.image.proofs.Copies.{taken}
use Rattle.image.proofs.take.Goals as goal

pub returns : goal.returns
unfolding put_policy
returns c =
    let i = c.args.image.now in
    let e : take (length i - image_head_bytes) (drop image_head_bytes i) ≡ drop image_head_bytes i = take_all (length i - image_head_bytes) (drop image_head_bytes i) (omega (arith, length-drop image_head_bytes i)) in
    ap view c.fill.ensures
    ∙ ap (λ (x : List ℕ). view (x ++ drop (length x) c.set_policy.new.h)) e
    ∙ taken c.set_policy.new.h i c.set_policy.array_long (policy_get c.set_policy.new.h ∙ ap (λ (s : State). s.shape.policy) c.set_policy.ensures) c.requires

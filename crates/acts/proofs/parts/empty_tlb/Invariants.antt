-- Each turn empties one more slot; with as many slots as the lists have places, all are empty.
use Prim.Native.Nat.{◌≤◌, ◌-◌}
use mathlib.Core.Path.{◌≡◌}
use Rattle.model.specs.Sizes.{slots}
use Rattle.host.specs.View.{view}
use Rattle.acts.proofs.Slots.{emptied_below}
use Rattle.acts.proofs.parts.empty_tlb.Given as goal

abbrev pub invariant-loop-i : goal.invariant-loop-i
invariant-loop-i l = (l.i ≤ slots) × (view l.h ≡ emptied_below l.i (view l.initial.h))

abbrev pub decreases-loop-i : goal.decreases-loop-i
decreases-loop-i l = slots - l.i

-- Each turn empties one more slot; with as many slots as the lists have places, all are empty.
-- Assumes nothing.
use mathlib.Core.Path.{◌≡◌, ◌∙◌}
use native.Mathlib.Omega.{arith}
use Rattle.model.specs.Sizes.{slots}
use Rattle.host.specs.View.{view}
use Rattle.host.proofs.Inverse.{view_sized}
use Rattle.acts.proofs.Slots.{emptied_none, emptied_more, emptied_all}
use Rattle.acts.proofs.parts.empty_tlb.Goals as goal

pub loop-i-init : goal.loop-i-init
loop-i-init c = (omega arith, emptied_none (view c.args.h.now))

pub overflow_step-i : goal.overflow_step-i
overflow_step-i c = omega arith

pub loop-i-smaller : goal.loop-i-smaller
loop-i-smaller c = omega arith

pub loop-i-preserved : goal.loop-i-preserved
loop-i-preserved c =
    let s = c.args.h.now in
    (omega arith, emptied_more c.loop-i.i (view s) (view c.loop-i.h) (view c.set_slot.new.h) c.loop-i.invariant.1 c.set_slot.ensures)

pub returns : goal.returns
returns c =
    let s = c.args.h.now in
    let e : c.loop-i.i ≡ slots = omega arith in
    rw e at c.loop-i.invariant.1 ∙ emptied_all (view s) (view_sized s (record { long = c.told-h; small = c.fits-h }))

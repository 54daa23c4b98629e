-- One line more each turn.
-- Assumes nothing.
use mathlib.Core.Path.{◌≡◌}
use native.Mathlib.Omega.{arith}
use Rattle.model.specs.Sizes.{lines}
use Rattle.host.specs.View.{view}
use Rattle.host.proofs.Inverse.{view_sized}
use Rattle.cache.proofs.Cleared.{cleared_none, cleared_more}
use Rattle.cache.proofs.lines.clear_page.Goals as goal

pub loop-i-init : goal.loop-i-init
loop-i-init c =
    let a = c.args in
    (omega arith, cleared_none (view a.h.now) a.p.0 (view_sized a.h.now (record { long = c.told-h; small = c.fits-h })))

pub loop-i-preserved : goal.loop-i-preserved
loop-i-preserved c =
    let a = c.args in
    (omega arith, cleared_more (view a.h.now) a.p.0 c.loop-i.i (omega arith) _ _ c.loop-i.invariant.1 c.clear_line.ensures)

pub returns : goal.returns
returns c =
    let e : c.loop-i.i ≡ lines = omega arith in
    rw e at c.loop-i.invariant.1

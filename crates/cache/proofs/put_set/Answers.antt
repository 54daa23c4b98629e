-- One way more each turn, then the history.
-- Assumes nothing.
use mathlib.Core.Path.{◌≡◌}
use native.Mathlib.Omega.{arith}
use Rattle.model.specs.Sizes.{ways}
use Rattle.host.specs.View.{view}
use Rattle.cache.proofs.Whole.{ways_none, ways_more, ways_all}
use Rattle.cache.proofs.put_set.Goals as goal

pub loop-w-init : goal.loop-w-init
loop-w-init c = let a = c.args in (omega arith, ways_none (view a.h.now) a.k a.s)

pub loop-w-preserved : goal.loop-w-preserved
loop-w-preserved c =
    (omega arith, ways_more (view c.args.h.now) c.args.k c.loop-w.w c.args.s _ _ c.loop-w.invariant.1 c.put_line.ensures)

pub returns : goal.returns
returns c =
    let e : c.loop-w.w ≡ ways = omega arith in
    ways_all (view c.args.h.now) c.args.k c.args.s _ _ (rw e at c.loop-w.invariant.1) c.set_history.ensures

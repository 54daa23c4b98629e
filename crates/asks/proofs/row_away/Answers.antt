-- The fold keeps whether an address leads to the page.
-- Assumes nothing.
use Rattle.std.proofs.Common.{rules, tests}
use Rattle.std.proofs.lemmas.Iterator.{YieldsList-from_range}
use Rattle.std.proofs.lemmas.Iterator.Consumers.{fold_from_yields_List}
use mathlib.Core.Path.{◌∙◌}
use mathlib.Core.Bool.{Bool, false, ◌||◌}
use Prim.Native.Nat.{ℕ}
use native.Mathlib.Omega.{arith}
use Rattle.model.specs.Sizes.{addresses}
use Rattle.host.specs.View.{view}
use Rattle.asks.specs.Maps.{entry_maps, row_maps, but_at}
use Rattle.asks.proofs.Folds.{fold_below}
use Rattle.asks.proofs.row_away.Goals as goal

pub returns : goal.returns
unfolding row_maps
returns c =
    let a = c.args in
    let f = entry_maps (view a.h.now).shape (but_at a.a.0) a.p.0 a.t.0 in
    fold_from_yields_List _ (λ (b : Bool) (v : ℕ). b || f v) false c.fold.result c.fold.ensures.ran (YieldsList-from_range 0 addresses addresses (cc) (omega arith)) (λ b x r q k. search (rules, tests))
    ∙ fold_below f addresses

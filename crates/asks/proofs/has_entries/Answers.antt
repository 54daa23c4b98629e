-- The fold keeps whether an entry is there.
-- Assumes nothing.
use Rattle.std.proofs.Common.{rules, tests}
use Rattle.std.proofs.lemmas.Iterator.{YieldsList-from_range}
use Rattle.std.proofs.lemmas.Iterator.Consumers.{fold_from_yields_List}
use mathlib.Core.Path.{◌∙◌}
use mathlib.Core.Bool.{Bool, false, ◌||◌}
use Prim.Native.Nat.{ℕ}
use native.Mathlib.Omega.{arith}
use Rattle.model.specs.Sizes.{addresses}
use Rattle.host.specs.View.{view}
use Rattle.host.proofs.Inverse.{view_sized}
use Rattle.asks.specs.Maps.{entry_there}
use Rattle.asks.proofs.Folds.{fold_below}
use Rattle.asks.proofs.Maps.{by_row}
use Rattle.asks.proofs.has_entries.Goals as goal

pub returns : goal.returns
returns c =
    let a = c.args in
    let s = (view a.h.now).shape in
    let f = entry_there s a.m.0 in
    let w = view_sized a.h.now c.whole.ensures in
    fold_from_yields_List _ (λ (b : Bool) (v : ℕ). b || f v) false c.fold.result c.fold.ensures.ran (YieldsList-from_range 0 addresses addresses (cc) (omega arith)) (λ b x r q k. search (rules, tests))
    ∙ fold_below f addresses ∙ by_row s a.m.0 w.entry

-- The chain answers whether a table maps another address to the page.
-- Assumes nothing.
use Rattle.std.proofs.Common.{rules, tests}
use Rattle.std.proofs.lemmas.Iterator.{YieldsList-from_range}
use Rattle.std.proofs.lemmas.Iterator.Search.{any_from_yields_List}
use mathlib.Core.Path.{◌∙◌}
use native.Mathlib.Omega.{arith}
use Rattle.laws.proofs.Chains.{any_below}
use Rattle.model.specs.Sizes.{pages}
use Rattle.host.specs.View.{view}
use Rattle.host.proofs.Inverse.{view_sized}
use Rattle.asks.specs.Maps.{table_maps, but_at}
use Rattle.asks.proofs.Maps.{by_tables}
use Rattle.asks.proofs.maps_away.Goals as goal

pub returns : goal.returns
returns c =
    let a = c.args in
    let s = (view a.h.now).shape in
    let f = table_maps s (but_at a.a.0) a.p.0 in
    let w = view_sized a.h.now c.whole.ensures in
    any_from_yields_List f _ _ c.any.result c.any.ensures.ran (YieldsList-from_range 0 pages pages (cc) (omega arith)) (λ x b q k. search (rules, tests))
    ∙ any_below f pages ∙ by_tables s (but_at a.a.0) a.p.0 w.entry

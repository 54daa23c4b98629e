-- The chain answers whether a table maps the address to the page. A number past the last address is mapped by none.
-- Assumes nothing.
use Rattle.std.proofs.Common.{rules, tests}
use Rattle.std.proofs.lemmas.Iterator.{YieldsList-from_range}
use Rattle.std.proofs.lemmas.Iterator.Search.{any_from_yields_List}
use mathlib.Core.Path.{◌∙◌}
use native.Mathlib.Omega.{arith}
use borrow.Author.Tests.{ne_eqb, le-ltb}
use Rattle.laws.proofs.Chains.{any_below}
use Rattle.model.specs.Sizes.{pages}
use Rattle.host.specs.View.{view}
use Rattle.host.proofs.Inverse.{view_sized}
use Rattle.asks.specs.Maps.{table_maps, only_at}
use Rattle.asks.proofs.Maps.{by_tables, mapped_past}
use Rattle.asks.proofs.maps_at.Goals as goal

pub returns-then-a-lt-ADDRESSES : goal.returns-then-a-lt-ADDRESSES
returns-then-a-lt-ADDRESSES c =
    let a = c.args in
    let s = (view a.h.now).shape in
    let f = table_maps s (only_at a.a.0) a.p.0 in
    let w = view_sized a.h.now c.whole.ensures in
    any_from_yields_List f _ _ c.any.result c.any.ensures.ran (YieldsList-from_range 0 pages pages (cc) (omega arith)) (λ x b q k. search (rules, tests))
    ∙ any_below f pages ∙ by_tables s (only_at a.a.0) a.p.0 w.entry

pub returns-else-a-lt-ADDRESSES : goal.returns-else-a-lt-ADDRESSES
returns-else-a-lt-ADDRESSES c =
    let a = c.args in
    let w = view_sized a.h.now c.whole.ensures in
    le-ltb _ _ c.if-a-lt-ADDRESSES.false
    ∙ mapped_past (view a.h.now).shape (only_at a.a.0) a.p.0 w.entry (λ v b. ne_eqb v a.a.0 (λ e. omega (arith, c.if-a-lt-ADDRESSES.false)))

-- A number that is marked is a page.
-- Assumes nothing.
use mathlib.Core.Path.{sym, ◌∙◌}
use Rattle.host.specs.View.{view}
use Rattle.host.proofs.Inverse.{view_sized}
use Rattle.cache.proofs.Accesses.{marked_page}
use Rattle.cache.proofs.lines.cacheable_page.Goals as goal

pub invariant_of-result : goal.invariant_of-result
invariant_of-result c =
    let h = c.args.h.now in
    marked_page (view h) c.args.p.0 (view_sized h (record { long = c.told-h; small = c.fits-h })) (sym c.if-cacheable-eq-CACHEABLE.true ∙ c.cacheable.ensures)

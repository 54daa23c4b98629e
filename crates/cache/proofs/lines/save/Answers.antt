-- The line's value, to the page that it leads to.
-- Assumes nothing.
use mathlib.Core.Path.{sym, ◌∙◌}
use Rattle.host.specs.View.{view}
use Rattle.host.proofs.Inverse.{view_sized}
use Rattle.cache.proofs.Whole.{saved_to, saved_nowhere}
use Rattle.cache.proofs.lines.save.Goals as goal

pub returns-in-Some : goal.returns-in-Some
returns-in-Some c =
    let a = c.args in
    c.set_memory.ensures
    ∙ saved_to (view a.h.now) a.l.page.0 c.in-Some.p.0 a.l.value (sym c.in-Some.ensures)

pub returns-in_default : goal.returns-in_default
returns-in_default c =
    let a = c.args in
    saved_nowhere (view a.h.now) a.l.page.0 a.l.value (view_sized a.h.now (record { long = c.told-h; small = c.fits-h })).memory (sym c.lead_in.ensures ∙ c.in_default.is)

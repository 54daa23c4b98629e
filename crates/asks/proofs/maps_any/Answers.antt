-- Each address is another than the number past the last.
-- Assumes nothing.
use mathlib.Core.Path.{◌∙◌}
use Rattle.host.specs.View.{view}
use Rattle.host.proofs.Inverse.{view_sized}
use Rattle.asks.proofs.Maps.{any_address}
use Rattle.asks.proofs.maps_any.Goals as goal

pub returns : goal.returns
returns c =
    let a = c.args in
    let w = view_sized a.h.now c.whole.ensures in
    c.maps_away.ensures ∙ any_address (view a.h.now).shape a.p.0 w.entry

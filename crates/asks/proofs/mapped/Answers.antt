-- The entry of the table in force. Past the last page there is none.
-- Assumes nothing.
use mathlib.Core.Path.{ap, ◌∙◌}
use Prim.Native.Nat.{ℕ, ◌+◌, ◌*◌}
use Rattle.laws.specs.Choice.{at}
use Rattle.model.specs.Sizes.{addresses}
use Rattle.model.specs.State.{table}
use Rattle.host.specs.View.{view}
use Rattle.numbers.specs.Lead.{lead_of, place_of}
use Rattle.numbers.proofs.Leads.{place_toward}
use Rattle.asks.proofs.Tables.{table_below}
use Rattle.asks.proofs.mapped.Goals as goal

pub returns : goal.returns
returns c =
    let a = c.args in
    let s = (view a.h.now).shape in
    c.entry.ensures
    ∙ ap (λ (t : ℕ). lead_of (at s.pages.entry (addresses * t + a.a.0)))
    (c.place.ensures ∙ ap place_of c.table.ensures ∙ place_toward (table s) (table_below s))

-- The page at the current address of the active guest, where that is in range and the page a table.
-- Assumes nothing.
use mathlib.Core.Path.{ap, ◌∙◌}
use Rattle.host.specs.View.{view}
use Rattle.numbers.specs.Lead.{toward}
use Rattle.asks.specs.Leads.{only_table}
use Rattle.asks.proofs.Tables.{table_in_law, table_out, in_force_law}
use Rattle.asks.proofs.table.Goals as goal

pub returns-then-a-lt-PHYSICALS : goal.returns-then-a-lt-PHYSICALS
returns-then-a-lt-PHYSICALS c =
    let a = c.args in
    let s = (view a.h.now).shape in
    let g = c.active-g in
    c.only_table.ensures ∙ ap (only_table s.pages.kind) c.physical.ensures
    ∙ table_in_law s.pages.kind s.pages.physical g.result.0 c.current-a.result.0 c.if-a-lt-PHYSICALS.true
    ∙ ap toward (in_force_law s g.result.0 c.current-a.result.0 g.ensures c.current-a.ensures)

pub returns-else-a-lt-PHYSICALS : goal.returns-else-a-lt-PHYSICALS
returns-else-a-lt-PHYSICALS c =
    let a = c.args in
    let s = (view a.h.now).shape in
    let g = c.active-g in
    table_out s.pages.kind s.pages.physical g.result.0 c.current-a.result.0 c.if-a-lt-PHYSICALS.false
    ∙ ap toward (in_force_law s g.result.0 c.current-a.result.0 g.ensures c.current-a.ensures)

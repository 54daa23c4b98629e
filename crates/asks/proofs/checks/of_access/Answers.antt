-- Whether the address is reserved, then whether it is mapped.
-- Assumes nothing.
use Rattle.std.proofs.Common.{rules, tests}
use Rattle.model.specs.State.{mapped}
use Rattle.model.specs.Checks.{asked}
use Rattle.host.specs.View.{view}
use Rattle.asks.proofs.Pages.{is_page_law}
use Rattle.asks.proofs.checks.of_access.Goals as goal

pub returns-then-is_none : goal.returns-then-is_none
unfolding asked
returns-then-is_none c =
    let a = c.args in
    rw (is_page_law (mapped (view a.h.now).shape a.a.0) c.mapped.ensures c.is_none.ensures) (search (rules, tests))

pub returns : goal.returns
unfolding asked
returns c =
    let a = c.args in
    rw (is_page_law (mapped (view a.h.now).shape a.a.0) c.mapped.ensures c.is_none.ensures) (search (rules, tests))

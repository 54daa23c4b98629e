-- Whether the address has a page, then whether there is a free one.
-- Assumes nothing.
use Rattle.std.proofs.Common.{rules, tests, sym}
use Rattle.model.specs.State.{here}
use Rattle.model.specs.Checks.{asked, lowest_free}
use Rattle.host.specs.View.{view}
use Rattle.asks.proofs.Pages.{is_page_law}
use Rattle.asks.proofs.checks.of_pin.Goals as goal

pub returns-then-is_some : goal.returns-then-is_some
unfolding asked
returns-then-is_some c =
    let a = c.args in
    rw (is_page_law (here (view a.h.now).shape a.b.0) c.here.ensures (sym c.is_some.ensures)) (search (rules, tests))

pub returns-then-is_none : goal.returns-then-is_none
unfolding asked
returns-then-is_none c =
    let a = c.args in
    let s = (view a.h.now).shape in
    rw
    (is_page_law (here s a.b.0) c.here.ensures (sym c.is_some.ensures), is_page_law (lowest_free s.pages.free) c.lowest_free.ensures c.is_none.ensures)
    (search (rules, tests))

pub returns : goal.returns
unfolding asked
returns c =
    let a = c.args in
    let s = (view a.h.now).shape in
    rw
    (is_page_law (here s a.b.0) c.here.ensures (sym c.is_some.ensures), is_page_law (lowest_free s.pages.free) c.lowest_free.ensures c.is_none.ensures)
    (search (rules, tests))

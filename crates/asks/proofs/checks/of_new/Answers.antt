-- The address, then the page, or that there is none.
-- Assumes nothing.
use Rattle.std.proofs.Common.{rules, tests}
use Rattle.model.specs.State.{here}
use Rattle.model.specs.Checks.{asked}
use Rattle.numbers.specs.declared.refusal.Refusal.TheVariants.{NoPage}
use Rattle.host.specs.View.{view}
use Rattle.model.specs.Sizes.{stealth}
use Rattle.asks.specs.Maps.{only_at}
use Rattle.asks.proofs.Maps.{maps_page_law}
use Rattle.asks.proofs.Pages.{found, missing}
use Rattle.asks.proofs.checks.of_new.Goals as goal

pub returns-in_err-p : goal.returns-in_err-p
unfolding asked
returns-in_err-p c =
    let a = c.args in
    let s = (view a.h.now).shape in
    let k = missing (here s a.b.0) c.here.ensures NoPage c.ok_or.ensures.value c.in_err-p.was in
    rw k.0 (search (rules, tests, k.1))

pub returns-then-kind-ne-KIND_DATA : goal.returns-then-kind-ne-KIND_DATA
unfolding asked
returns-then-kind-ne-KIND_DATA c =
    let a = c.args in
    let s = (view a.h.now).shape in
    let k = found (here s a.b.0) c.here.ensures NoPage c.ok_or.ensures.value c.in_ok-p.was in
    rw (k.1, k.0) (search (rules, tests))

pub returns-then-maps_at : goal.returns-then-maps_at
unfolding asked
returns-then-maps_at c =
    let a = c.args in
    let s = (view a.h.now).shape in
    let k = found (here s a.b.0) c.here.ensures NoPage c.ok_or.ensures.value c.in_ok-p.was in
    let e = maps_page_law s (only_at stealth) c.in_ok-p.p.0 k.2 in
    rw (k.1, k.0) (search (rules, tests, e))

pub returns : goal.returns
unfolding asked
returns c =
    let a = c.args in
    let s = (view a.h.now).shape in
    let k = found (here s a.b.0) c.here.ensures NoPage c.ok_or.ensures.value c.in_ok-p.was in
    let e = maps_page_law s (only_at stealth) c.in_ok-p.p.0 k.2 in
    rw (k.1, k.0) (search (rules, tests, e))

-- The page at the address, and its kind.
-- Assumes nothing.
use Rattle.std.proofs.Common.{rules, tests}
use Rattle.model.specs.State.{here}
use Rattle.model.specs.Checks.{asked}
use Rattle.numbers.specs.declared.refusal.Refusal.TheVariants.{NoPage}
use Rattle.host.specs.View.{view}
use Rattle.asks.proofs.Pages.{found, missing}
use Rattle.asks.proofs.checks.of_lswitch.Goals as goal

pub returns-in_err-p : goal.returns-in_err-p
unfolding asked
returns-in_err-p c =
    let a = c.args in
    let k = missing (here (view a.h.now).shape a.b.0) c.here.ensures NoPage c.ok_or.ensures.value c.in_err-p.was in
    rw k.0 (search (rules, tests, k.1))

pub returns-then-kind-ne-KIND_TABLE : goal.returns-then-kind-ne-KIND_TABLE
unfolding asked
returns-then-kind-ne-KIND_TABLE c =
    let a = c.args in
    let k = found (here (view a.h.now).shape a.b.0) c.here.ensures NoPage c.ok_or.ensures.value c.in_ok-p.was in
    rw (k.1, k.0) (search (rules, tests))

pub returns : goal.returns
unfolding asked
returns c =
    let a = c.args in
    let k = found (here (view a.h.now).shape a.b.0) c.here.ensures NoPage c.ok_or.ensures.value c.in_ok-p.was in
    rw (k.1, k.0) (search (rules, tests))

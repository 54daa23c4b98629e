-- Each action by itself.
-- Assumes nothing.
use Rattle.std.proofs.Common.{rules, tests}
use Rattle.model.specs.Step.{own_checks}
use Rattle.asks.proofs.checks.own_check.Goals as goal

pub returns-in-New : goal.returns-in-New
unfolding own_checks
returns-in-New c = search (rules, tests)

pub returns-in-NewSm : goal.returns-in-NewSm
unfolding own_checks
returns-in-NewSm c = search (rules, tests)

pub returns-in-Lswitch : goal.returns-in-Lswitch
unfolding own_checks
returns-in-Lswitch c = search (rules, tests)

pub returns-in-Pin : goal.returns-in-Pin
unfolding own_checks
returns-in-Pin c = search (rules, tests)

pub returns-in-Unpin : goal.returns-in-Unpin
unfolding own_checks
returns-in-Unpin c = search (rules, tests)

pub returns-in-Silent : goal.returns-in-Silent
unfolding own_checks
returns-in-Silent c = search (rules, tests)

pub returns-in-Read : goal.returns-in-Read
unfolding own_checks
returns-in-Read c = search (rules, tests)

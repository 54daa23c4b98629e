-- A page that is led to is tested; a place that leads nowhere must be empty.
-- Assumes nothing.
use Rattle.std.proofs.Common.{rules, tests}
use Rattle.entries.specs.Entries.{own_by, own_at}
use Rattle.seek.proofs.Leading.{kept_is}
use Rattle.entries.proofs.own.Goals as goal

pub returns-in-Some : goal.returns-in-Some
unfolding own_at own_by
returns-in-Some c = rw kept_is (search (rules, tests))

pub returns-in-None : goal.returns-in-None
unfolding own_at
returns-in-None c = rw kept_is (search (rules, tests))

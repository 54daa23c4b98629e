-- A page that is led to is tested; a place that leads nowhere must be empty.
-- Assumes nothing.
use Rattle.std.proofs.Common.{rules, tests}
use Rattle.places.specs.Places.{held_by, held_once}
use Rattle.seek.specs.Leads.{held_away}
use Rattle.seek.proofs.Leading.{kept_is}
use Rattle.places.proofs.held.Goals as goal

pub returns-in-Some : goal.returns-in-Some
unfolding held_once held_by held_away
returns-in-Some c = rw kept_is (search (rules, tests))

pub returns-in-None : goal.returns-in-None
unfolding held_once
returns-in-None c = rw kept_is (search (rules, tests))

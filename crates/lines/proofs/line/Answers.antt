-- A page that is led to is tested; a line that leads nowhere must be empty.
-- Assumes nothing.
use Rattle.std.proofs.Common.{rules, tests}
use Rattle.lines.specs.Lines.{lined_by, lined}
use Rattle.seek.specs.Leads.{key_at}
use Rattle.seek.proofs.Leading.{kept_is}
use Rattle.lines.proofs.line.Goals as goal

pub returns-in-Some : goal.returns-in-Some
unfolding lined lined_by key_at
returns-in-Some c = rw kept_is (search (rules, tests))

pub returns-in-None : goal.returns-in-None
unfolding lined
returns-in-None c = rw kept_is (search (rules, tests))

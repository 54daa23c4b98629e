-- The way has the page that was asked for, or is empty.
-- Assumes nothing.
use Rattle.std.proofs.Common.{rules, tests}
use Rattle.lines.specs.Lines.{first_way}
use Rattle.lines.proofs.first_way.Goals as goal

pub returns-in-Some : goal.returns-in-Some
unfolding first_way
returns-in-Some c = search (rules, tests)

pub returns-in-None : goal.returns-in-None
unfolding first_way
returns-in-None c = search (rules, tests)

-- Each test is of what was read.
-- Assumes nothing.
use Rattle.std.proofs.Common.{rules, tests}
use Rattle.places.specs.Places.{current_table}
use Rattle.places.proofs.current_table.Goals as goal

pub returns : goal.returns
unfolding current_table
returns c = search (rules, tests)

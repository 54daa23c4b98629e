-- Each test is of what was read.
-- Assumes nothing.
use Rattle.std.proofs.Common.{rules, tests}
use Rattle.ranges.specs.Ranges.{set_in_range}
use Rattle.ranges.proofs.set_in_range.Goals as goal

pub returns : goal.returns
unfolding set_in_range
returns c = search (rules, tests)

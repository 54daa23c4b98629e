-- Each test is of what was read.
-- Assumes nothing.
use Rattle.std.proofs.Common.{rules, tests}
use Rattle.seek.proofs.Leading.{placed_is}
use Rattle.ranges.specs.Ranges.{place_in_range}
use Rattle.ranges.proofs.place_in_range.Goals as goal

pub returns : goal.returns
unfolding place_in_range
returns c = rw (← placed_is) (search (rules, tests))

-- Each test is of what was read.
-- Assumes nothing.
use Rattle.std.proofs.Common.{rules, tests}
use Rattle.seek.proofs.Leading.{placed_is}
use Rattle.ranges.specs.Ranges.{line_in_range}
use Rattle.ranges.proofs.line_in_range.Goals as goal

pub returns : goal.returns
unfolding line_in_range
returns c = rw (← placed_is) (search (rules, tests))

-- Each test is of what was read.
-- Assumes nothing.
use Rattle.std.proofs.Common.{rules, tests}
use Rattle.ranges.specs.Ranges.{page_in_range}
use Rattle.ranges.proofs.page_in_range.Goals as goal

pub returns : goal.returns
unfolding page_in_range
returns c = search (rules, tests)

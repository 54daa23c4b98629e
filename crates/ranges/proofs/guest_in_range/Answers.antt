-- Each test is of what was read.
-- Assumes nothing.
use Rattle.std.proofs.Common.{rules, tests}
use Rattle.numbers.proofs.CallNumbers.{bytes_call}
use Rattle.ranges.specs.Ranges.{guest_in_range}
use Rattle.ranges.proofs.guest_in_range.Goals as goal

pub returns : goal.returns
unfolding guest_in_range
returns c = search (rules, tests, bytes_call)

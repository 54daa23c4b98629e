-- Each test is of what was read.
-- Assumes nothing.
use Rattle.std.proofs.Common.{rules, tests}
use Rattle.numbers.proofs.CallNumbers.{bytes_call}
use Rattle.ranges.proofs.call_fits.Goals as goal

pub returns : goal.returns
returns c = search (rules, tests, bytes_call)

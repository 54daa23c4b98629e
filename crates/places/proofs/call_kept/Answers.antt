-- Each test is of what was read.
-- Assumes nothing.
use Rattle.std.proofs.Common.{rules, tests}
use Rattle.places.specs.Places.{call_kept}
use Rattle.numbers.proofs.CallNumbers.{bytes_call}
use Rattle.places.proofs.call_kept.Goals as goal

pub returns : goal.returns
unfolding call_kept
returns c = search (rules, tests, bytes_call)

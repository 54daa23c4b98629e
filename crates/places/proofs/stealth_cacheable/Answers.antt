-- Each test is of what was read.
-- Assumes nothing.
use Rattle.std.proofs.Common.{rules, tests}
use Rattle.places.specs.Places.{stealth_cacheable}
use Rattle.places.proofs.stealth_cacheable.Goals as goal

pub returns : goal.returns
unfolding stealth_cacheable
returns c = search (rules, tests)

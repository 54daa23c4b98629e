-- The address is compared with the active guest's current one.
-- Assumes nothing.
use Rattle.std.proofs.Common.{rules, tests}
use Rattle.model.specs.Checks.{asked}
use Rattle.asks.proofs.checks.is_current.Goals as goal

pub returns : goal.returns
unfolding asked
returns c = search (rules, tests)

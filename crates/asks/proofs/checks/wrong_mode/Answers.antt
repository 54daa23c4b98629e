-- The mode, compared with the one that is needed.
-- Assumes nothing.
use Rattle.std.proofs.Common.{rules, tests}
use Rattle.model.specs.Checks.{asked}
use Rattle.asks.proofs.checks.wrong_mode.Goals as goal

pub returns-in-Waiting : goal.returns-in-Waiting
unfolding asked
returns-in-Waiting c = search (rules, tests)

pub returns-in-Running : goal.returns-in-Running
unfolding asked
returns-in-Running c = search (rules, tests)

-- The active guest is the one that is asked of.
-- Assumes nothing.
use Rattle.std.proofs.Common.{rules, tests}
use Rattle.model.specs.Checks.{asked}
use Rattle.asks.proofs.checks.wrong_call.Goals as goal

pub returns-in-ActiveIdle : goal.returns-in-ActiveIdle
unfolding asked
returns-in-ActiveIdle c = search (rules, tests)

-- The call that is stored is not numbered none.
-- Assumes nothing.
use Rattle.model.specs.Checks.{asked}
use Rattle.asks.proofs.checks.has_call.Goals as goal

pub returns : goal.returns
unfolding asked
returns c = rw c.idle.ensures

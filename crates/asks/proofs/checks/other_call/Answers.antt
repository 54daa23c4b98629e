-- The bytes of the active guest's call are not those of this one.
-- Assumes nothing.
use Rattle.model.specs.Checks.{asked}
use Rattle.asks.proofs.checks.other_call.Goals as goal

pub returns : goal.returns
unfolding asked
returns c = rw (c.is_pending.ensures, c.active.ensures)

-- The fresh machine, and then its policy.
-- Assumes nothing.
use Rattle.host.proofs.FreshBytes.{fresh_stored}
use Rattle.host.proofs.start.fresh_with.Goals as goal

pub returns : goal.returns
returns c =
    fresh_stored _ _ c.from.result _ c.fresh.ensures c.from.ensures c.set_policy.ensures

-- The byte that is read is the field.
-- Assumes nothing.
use Rattle.host.proofs.Numbers.{policy_get}
use Rattle.host.proofs.values.policy.Goals as goal

pub returns : goal.returns
returns c = policy_get c.args.h.now

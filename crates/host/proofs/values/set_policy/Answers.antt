-- The byte that is stored is the field.
-- Assumes nothing.
use Rattle.std.proofs.Common.{rules}
use Rattle.host.proofs.Numbers.{policy_put}
use Rattle.host.proofs.values.set_policy.Goals as goal

pub returns : goal.returns
returns c = policy_put c.args.v c.args.h.now (search rules)

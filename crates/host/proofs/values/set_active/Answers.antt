-- The byte that is stored is the field.
-- Assumes nothing.
use Rattle.std.proofs.Common.{rules}
use Rattle.host.proofs.Numbers.{active_put}
use Rattle.host.proofs.values.set_active.Goals as goal

pub returns : goal.returns
returns c = active_put c.args.g.0 c.args.h.now (search rules)

-- The byte that is read is the field.
-- Assumes nothing.
use Rattle.host.proofs.Numbers.{active_get}
use Rattle.host.proofs.values.active.Goals as goal

pub returns : goal.returns
returns c = active_get c.args.h.now

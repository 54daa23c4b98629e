-- The byte that is read is the field.
-- Assumes nothing.
use Rattle.host.proofs.Numbers.{mode_get}
use Rattle.host.proofs.values.mode.Goals as goal

pub returns : goal.returns
returns c = mode_get c.args.h.now

-- The byte that is stored is the field.
-- Assumes nothing.
use Rattle.std.proofs.Common.{rules}
use Rattle.host.proofs.Numbers.{mode_put}
use Rattle.host.proofs.values.set_mode.Goals as goal

pub returns : goal.returns
returns c = mode_put c.args.m c.args.h.now (search rules)

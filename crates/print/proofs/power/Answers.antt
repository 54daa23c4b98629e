-- The table, tested once.
-- Assumes nothing.
use Rattle.print.proofs.Decimal.{power_at}
use Rattle.print.proofs.power.Goals as goal

pub returns : goal.returns
returns c = power_at c.args.i c.requires

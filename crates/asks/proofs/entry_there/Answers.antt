-- It is not empty.
-- Assumes nothing.
use mathlib.Core.Path.{ap}
use mathlib.Core.Bool.{not}
use Rattle.asks.specs.Maps.{entry_there}
use Rattle.asks.proofs.entry_there.Goals as goal

pub returns : goal.returns
unfolding entry_there
returns c = ap not c.entry_empty.ensures

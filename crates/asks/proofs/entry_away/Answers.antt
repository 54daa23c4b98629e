-- The entry, and that its address is another.
-- Assumes nothing.
use Rattle.std.proofs.Common.{rules, tests}
use Rattle.asks.specs.Maps.{entry_maps}
use Rattle.asks.proofs.entry_away.Goals as goal

pub returns : goal.returns
unfolding entry_maps
returns c = search (rules, tests)

-- A page that is no table maps nothing; a table maps what its row does.
-- Assumes nothing.
use Rattle.std.proofs.Common.{rules, tests}
use Rattle.asks.specs.Maps.{table_maps}
use Rattle.asks.proofs.table_away.Goals as goal

pub returns-then-kind-eq-KIND_TABLE : goal.returns-then-kind-eq-KIND_TABLE
unfolding table_maps
returns-then-kind-eq-KIND_TABLE c = search (rules, tests)

pub returns-else-kind-eq-KIND_TABLE : goal.returns-else-kind-eq-KIND_TABLE
unfolding table_maps
returns-else-kind-eq-KIND_TABLE c = search (rules, tests)

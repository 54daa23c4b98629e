-- A page that is no table maps nothing; a table maps what its entry leads to.
-- Assumes nothing.
use Rattle.std.proofs.Common.{rules, tests}
use Rattle.asks.specs.Maps.{table_maps}
use Rattle.asks.proofs.Maps.{row_at}
use Rattle.asks.proofs.table_at.Goals as goal

pub returns-then-kind-eq-KIND_TABLE : goal.returns-then-kind-eq-KIND_TABLE
unfolding table_maps
returns-then-kind-eq-KIND_TABLE c = search (rules, tests, row_at)

pub returns-else-kind-eq-KIND_TABLE : goal.returns-else-kind-eq-KIND_TABLE
unfolding table_maps
returns-else-kind-eq-KIND_TABLE c = search (rules, tests)

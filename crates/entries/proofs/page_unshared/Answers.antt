-- What is asked of the page, by its mark and its kind.
-- Assumes nothing.
use Rattle.std.proofs.Common.{rules, tests}
use Rattle.entries.specs.Entries.{page_unshared}
use Rattle.entries.proofs.page_unshared.Goals as goal

pub returns-then-cacheable-ne-CACHEABLE : goal.returns-then-cacheable-ne-CACHEABLE
unfolding page_unshared
returns-then-cacheable-ne-CACHEABLE c = search (rules, tests)

pub returns-then-kind-ne-KIND_DATA : goal.returns-then-kind-ne-KIND_DATA
unfolding page_unshared
returns-then-kind-ne-KIND_DATA c = search (rules, tests)

pub returns-else-kind-ne-KIND_DATA : goal.returns-else-kind-ne-KIND_DATA
unfolding page_unshared
returns-else-kind-ne-KIND_DATA c = search (rules, tests)

-- The test at each address.
-- Assumes nothing.
use Rattle.std.proofs.Common.{rules, tests}
use Rattle.model.specs.Sizes.{addresses}
use Rattle.host.specs.View.{view}
use Rattle.ranges.specs.Ranges.{entry_in_range}
use Rattle.rules.proofs.Chains.{all_numbers}
use Rattle.rules.proofs.table_in_range.Goals as goal

pub returns : goal.returns
returns c = all_numbers (entry_in_range (view c.args.h.now) c.args.m.0) addresses (cc) c.all.ensures.ran (λ x b q k. search (rules, tests))

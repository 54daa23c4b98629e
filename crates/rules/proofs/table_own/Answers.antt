-- The test at each address.
-- Assumes nothing.
use Rattle.std.proofs.Common.{rules, tests}
use Rattle.model.specs.Sizes.{addresses}
use Rattle.host.specs.View.{view}
use Rattle.entries.specs.Entries.{own_at}
use Rattle.rules.proofs.Chains.{all_numbers}
use Rattle.rules.proofs.table_own.Goals as goal

pub returns : goal.returns
returns c = all_numbers (own_at (view c.args.h.now) c.args.m.0) addresses (cc) c.all.ensures.ran (λ x b q k. search (rules, tests))

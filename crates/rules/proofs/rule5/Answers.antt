-- The test at each guest.
-- Assumes nothing.
use Rattle.std.proofs.Common.{rules, tests}
use Rattle.model.specs.Sizes.{guests}
use Rattle.model.specs.RuleTests.{rule5?}
use Rattle.host.specs.View.{view}
use Rattle.places.specs.Places.{current_table}
use Rattle.rules.proofs.Chains.{all_numbers}
use Rattle.rules.proofs.rule5.Goals as goal

pub returns : goal.returns
unfolding rule5? current_table
returns c =
    all_numbers (current_table (view c.args.h.now)) guests (cc) c.all.ensures.ran (λ x b q k. search (rules, tests))

-- The test at each guest.
-- Assumes nothing.
use Rattle.std.proofs.Common.{rules, tests}
use Rattle.model.specs.Sizes.{guests}
use Rattle.model.specs.RuleTests.{rule1?}
use Rattle.host.specs.View.{view}
use Rattle.places.specs.Places.{call_kept}
use Rattle.rules.proofs.Chains.{all_numbers}
use Rattle.rules.proofs.rule1.Goals as goal

pub returns : goal.returns
unfolding rule1? call_kept
returns c =
    all_numbers (call_kept (view c.args.h.now)) guests (cc) c.all.ensures.ran (λ x b q k. search (rules, tests))

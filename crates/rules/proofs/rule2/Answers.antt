-- The test at each page.
-- Assumes nothing.
use Rattle.std.proofs.Common.{rules, tests}
use Rattle.model.specs.Sizes.{pages}
use Rattle.model.specs.RuleTests.{rule2?}
use Rattle.host.specs.View.{view}
use Rattle.places.specs.Places.{page_kept, page_of}
use Rattle.rules.proofs.Chains.{all_numbers}
use Rattle.rules.proofs.rule2.Goals as goal

pub returns : goal.returns
unfolding rule2? page_kept page_of
returns c =
    all_numbers (page_kept (view c.args.h.now)) pages (cc) c.all.ensures.ran (λ x b q k. search (rules, tests))

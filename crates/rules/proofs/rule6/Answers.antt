-- One pass over the entries, and the test of each table's stealth page.
-- Assumes nothing.
use Rattle.std.proofs.Common.{rules, tests}
use Rattle.model.specs.Sizes.{pages}
use Rattle.host.specs.View.{view}
use Rattle.host.proofs.Inverse.{view_sized}
use Rattle.places.specs.Places.{stealth_cacheable}
use Rattle.entries.proofs.Shared.{rule6_is}
use Rattle.rules.proofs.Chains.{all_numbers}
use Rattle.rules.proofs.rule6.Goals as goal

pub returns : goal.returns
returns c =
    let s = view c.args.h.now in
    rw (all_numbers (stealth_cacheable s) pages (cc) c.all.ensures.ran (λ x b q k. search (rules, tests)), c.no_page_shared.ensures) (rule6_is s (view_sized c.args.h.now c.whole.ensures))

-- The test at each physical address, and at each page.
-- Assumes nothing.
use Rattle.std.proofs.Common.{rules, tests}
use Prim.Native.Nat.{◌*◌}
use Rattle.model.specs.Sizes.{guests, physicals, pages}
use Rattle.host.specs.View.{view}
use Rattle.host.proofs.Inverse.{view_sized}
use Rattle.places.specs.Places.{held_once, registered_at}
use Rattle.rules.proofs.Chains.{all_numbers}
use Rattle.rules.proofs.Rules.{rule3_is}
use Rattle.rules.proofs.rule3.Goals as goal

pub returns : goal.returns
returns c =
    let s = view c.args.h.now in
    rw (all_numbers (registered_at s) pages (cc) c.all-2.ensures.ran (λ x b q k. search (rules, tests)), all_numbers (held_once s) (guests * physicals) (cc) c.all.ensures.ran (λ x b q k. search (rules, tests)))
    (rule3_is s (view_sized c.args.h.now c.whole.ensures))

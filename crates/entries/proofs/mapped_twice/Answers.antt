-- The chain asks each address.
-- Assumes nothing.
use Rattle.std.proofs.Common.{rules, tests}
use Rattle.host.specs.View.{view}
use Rattle.model.specs.Sizes.{addresses}
use Rattle.seek.proofs.Chains.{any_over}
use Rattle.entries.specs.Entries.{shared_at}
use Rattle.entries.proofs.mapped_twice.Goals as goal

pub returns : goal.returns
unfolding shared_at
returns c =
    let a = c.args in
    any_over (shared_at (view a.h.now) a.p.0) addresses _ _ _ c.any.ensures.ran (λ i b q k. search (rules, tests))

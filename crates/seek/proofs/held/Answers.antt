-- The chain asks each address.
-- Assumes nothing.
use Rattle.std.proofs.Common.{rules, tests}
use Rattle.host.specs.View.{view}
use Rattle.model.specs.Sizes.{physicals}
use Rattle.seek.specs.Leads.{held_at}
use Rattle.seek.proofs.Chains.{any_over}
use Rattle.seek.proofs.held.Goals as goal

pub returns : goal.returns
unfolding held_at
returns c =
    let a = c.args in
    any_over (held_at (view a.h.now) a.g.0 a.p.0) physicals _ _ _ c.any.ensures.ran (λ i b q k. search (rules, tests))

-- The chain asks each line.
-- Assumes nothing.
use Rattle.std.proofs.Common.{rules, tests}
use Rattle.host.specs.View.{view}
use Rattle.model.specs.Sizes.{lines}
use Rattle.seek.specs.Leads.{key_at}
use Rattle.seek.proofs.Chains.{any_over}
use Rattle.seek.proofs.key_again.Goals as goal

pub returns : goal.returns
unfolding key_at
returns c =
    let a = c.args in
    any_over (key_at a.j a.a.0 a.p.0 (view a.h.now)) lines _ _ _ c.any.ensures.ran (λ i b q k. search (rules, tests))

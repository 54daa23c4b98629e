-- On a valid state the records that were played are the model's run.
-- Assumes nothing.
use mathlib.Core.Path.{sym, ◌∙◌}
use native.Mathlib.Omega.{arith}
use Rattle.host.specs.View.{view}
use Rattle.steps.proofs.Joining.{most_played}
use Rattle.steps.proofs.most.run_most.Goals as goal

pub returns : goal.returns
returns c =
    let a = c.args in
    most_played (view a.h.now) a.first.now a.j.now a.start a.out.now a.n c.most-taken.result c.most-taken.ensures
    (sym c.valid.ensures ∙ c.if-not-valid.false)
    (λ i h. omega (arith, c.type_inv.first i))
    (λ i h. omega (arith, c.type_inv.j i))
    c.play_joined-accepted.ensures

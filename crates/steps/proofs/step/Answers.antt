-- On a valid state the record is judged.
-- Assumes nothing.
use mathlib.Core.Path.{sym, ◌∙◌}
use native.Mathlib.Omega.{arith}
use Rattle.host.specs.View.{view}
use Rattle.steps.proofs.Judging.{step_judged}
use Rattle.steps.proofs.step.Goals as goal

pub returns : goal.returns
returns c =
    let a = c.args in
    step_judged (view a.h.now) _ a.bytes.now (sym c.valid.ensures ∙ c.if-not-valid.false) (λ i h. omega (arith, c.type_inv.bytes i)) c.judge.result
    c.judge.ensures

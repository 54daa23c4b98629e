-- The parts of the step, one after another.
-- Assumes nothing.
use mathlib.Core.Path.{◌≡◌, subst}
use Rattle.model.specs.NewSm.{new_sm_step}
use Rattle.numbers.specs.declared.Ma.{Ma}
use Rattle.host.specs.View.{view}
use Rattle.acts.proofs.Accesses.{new_sm_law}
use Rattle.acts.proofs.new_sm.create.Goals as goal

pub returns : goal.returns
returns c =
    let x = view c.args.h.now in
    subst (λ (p : Ma). view c.clear_call.new.h ≡ new_sm_step x p.0) c.p.view_is
    (new_sm_law x c.p.inside.ma.0 c.in_force-t.result.0 c.p.invariant (view c.fill.new.h) (view c.map.new.h) (view c.translate.new.h) (view c.clear_call.new.h)
    c.fill.ensures c.in_force-t.ensures c.map.ensures c.translate.ensures c.clear_call.ensures)

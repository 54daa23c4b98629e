-- The parts of the step, one after another.
-- Assumes nothing.
use mathlib.Core.Path.{◌≡◌, ap, ◌∙◌, subst}
use Prim.Native.Nat.{ℕ}
use Rattle.laws.specs.Choice.{pick}
use Rattle.model.specs.State.{is_page}
use Rattle.model.specs.Write.{write_step}
use Rattle.numbers.specs.declared.Ma.{Ma}
use Rattle.host.specs.View.{view}
use Rattle.cache.proofs.Found.{at_page}
use Rattle.acts.proofs.Accesses.{writes}
use Rattle.acts.proofs.write.write.Goals as goal

pub returns-in-Some : goal.returns-in-Some
returns-in-Some c =
    let s = c.args in
    let x = view s.h.now in
    let q = c.page.inside.ma.0 in
    let e : q ≡ s.p.0 = ap (λ (m : Ma). m.0) c.page.view_is ∙ (at_page s.p.0 c.in-Some.page c.in-Some.ensures).1 in
    subst (λ (n : ℕ). view c.translate.new.h ≡ pick (is_page n) (write_step x s.a.0 n s.v) x) e
    (writes x s.a.0 q c.page.invariant (view c.access.new.h) (view c.translate.new.h) c.translate.ensures s.v c.access.result c.access.ensures)

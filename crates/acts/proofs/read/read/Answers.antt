-- The parts of the step, one after another.
-- Assumes nothing.
use mathlib.Core.Path.{◌≡◌, ap, ◌∙◌, subst}
use Prim.Native.Nat.{ℕ}
use Rattle.numbers.specs.declared.Ma.{Ma}
use Rattle.host.specs.View.{view}
use Rattle.cache.proofs.Found.{at_page}
use Rattle.acts.specs.Reads.{Reads}
use Rattle.acts.proofs.Accesses.{reads}
use Rattle.acts.proofs.read.read.Goals as goal

pub returns-in-Some : goal.returns-in-Some
returns-in-Some c =
    let s = c.args in
    let q = c.page.inside.ma.0 in
    let e : q ≡ s.p.0 = ap (λ (m : Ma). m.0) c.page.view_is ∙ (at_page s.p.0 c.in-Some.page c.in-Some.ensures).1 in
    subst (λ (n : ℕ). Reads (view s.h.now) s.a.0 n c.access-v.result (view c.translate.new.h)) e
    (reads (view s.h.now) s.a.0 q c.page.invariant (view c.access-v.new.h) (view c.translate.new.h) c.translate.ensures c.access-v.result c.access-v.ensures)

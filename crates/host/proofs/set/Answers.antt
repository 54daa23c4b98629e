-- The byte that is stored is the field's at that place; past its end nothing changes.
-- Assumes nothing.
use mathlib.Core.Path.{ap, ◌∙◌}
use Prim.Native.Nat.{ℕ, ◌+◌}
use native.Mathlib.Omega.{arith}
use lib.ListN.{set}
use Rattle.host.specs.View.{view}
use Rattle.host.proofs.View.{column_put, column_kept, ends_below}
use Rattle.host.specs.Columns.{number_of}
use Rattle.host.proofs.Columns.{numbers_listed}
use Rattle.host.proofs.set.Goals as goal

pub overflow_add-h : goal.overflow_add-h
overflow_add-h c =
    let k = number_of c.args.c in
    let p = c.extent-start.ensures in
    record { fits = omega (arith, p.0, p.1, ends_below k, c.if-i-size.true) }

pub bounds-h-start : goal.bounds-h-start
bounds-h-start c =
    let k = number_of c.args.c in
    let p = c.extent-start.ensures in
    omega (arith, p.0, p.1, ends_below k, c.if-i-size.true)

pub returns-then-i-size : goal.returns-then-i-size
returns-then-i-size c =
    let a = c.args in
    let e = numbers_listed a.c in
    let k = number_of a.c in
    let p = c.extent-start.ensures in
    ap (λ (x : ℕ). view (set a.h.now (x + a.i) a.v)) p.0
    ∙ column_put k a.i a.v a.h.now e (omega (arith, p.1, c.if-i-size.true))

pub returns-else-i-size : goal.returns-else-i-size
returns-else-i-size c =
    let a = c.args in
    let e = numbers_listed a.c in
    let k = number_of a.c in
    let p = c.extent-start.ensures in
    column_kept k a.i a.v a.h.now e (omega (arith, p.1, c.if-i-size.false))

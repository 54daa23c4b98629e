-- The byte that is read is the field's at that place; past its end it is 0.
-- Assumes nothing.
use mathlib.Core.Path.{ap, ◌∙◌}
use Prim.Native.Nat.{ℕ, ◌+◌}
use native.Mathlib.Omega.{arith}
use Rattle.laws.specs.Choice.{at}
use Rattle.host.proofs.View.{column_get, column_out, ends_below}
use Rattle.host.specs.Columns.{number_of}
use Rattle.host.proofs.Columns.{numbers_listed}
use Rattle.host.proofs.get.Goals as goal

pub overflow_add-result : goal.overflow_add-result
overflow_add-result c =
    let k = number_of c.args.c in
    let p = c.extent-start.ensures in
    record { fits = omega (arith, p.0, p.1, ends_below k, c.if-i-size.true) }

pub bounds-h-start : goal.bounds-h-start
bounds-h-start c =
    let k = number_of c.args.c in
    let p = c.extent-start.ensures in
    omega (arith, p.0, p.1, ends_below k, c.if-i-size.true)

pub returns-then-i-size : goal.returns-then-i-size
returns-then-i-size c =
    let a = c.args in
    let e = numbers_listed a.c in
    let k = number_of a.c in
    let p = c.extent-start.ensures in
    ap (λ (x : ℕ). at a.h.now (x + a.i)) p.0 ∙ column_get k a.i a.h.now e (omega (arith, p.1, c.if-i-size.true))

pub returns-else-i-size : goal.returns-else-i-size
returns-else-i-size c =
    let a = c.args in
    let e = numbers_listed a.c in
    let k = number_of a.c in
    let p = c.extent-start.ensures in
    column_out k a.i a.h.now e (omega (arith, p.1, c.if-i-size.false))

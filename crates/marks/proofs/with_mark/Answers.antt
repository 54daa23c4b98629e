-- A page that is not marked is marked by a sum; one that is marked, and a number that is no page, change nothing.
-- Assumes nothing.
use mathlib.Core.Path.{sym, ap, ◌∙◌}
use Prim.Native.Nat.{ℕ, ◌+◌}
use native.Mathlib.Omega.{arith}
use Rattle.marks.proofs.Numbers.{with_below, with_new, with_old, with_past}
use Rattle.marks.proofs.with_mark.Goals as goal

pub overflow_add-result : goal.overflow_add-result
overflow_add-result c =
    record { fits = omega (arith, c.one_bit.ensures, with_below c.args.m c.args.p.0 c.ranges.m.fits c.if-n-lt-PAGES.true (sym c.is_marked.ensures ∙ c.if-is_marked.false)) }

pub returns-then-is_marked : goal.returns-then-is_marked
returns-then-is_marked c =
    with_old c.args.m c.args.p.0 c.if-n-lt-PAGES.true (sym c.is_marked.ensures ∙ c.if-is_marked.true)

pub returns-else-is_marked : goal.returns-else-is_marked
returns-else-is_marked c =
    ap (λ (x : ℕ). c.args.m + x) c.one_bit.ensures
    ∙ with_new c.args.m c.args.p.0 c.if-n-lt-PAGES.true (sym c.is_marked.ensures ∙ c.if-is_marked.false)

pub returns-else-n-lt-PAGES : goal.returns-else-n-lt-PAGES
returns-else-n-lt-PAGES c = let s = c in with_past s.args.m s.args.p.0 c.if-n-lt-PAGES.false

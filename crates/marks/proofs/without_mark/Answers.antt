-- A mark is taken off by a difference; where there is none nothing changes.
-- Assumes nothing.
use mathlib.Core.Path.{sym, ap, ◌∙◌}
use Prim.Native.Nat.{ℕ, ◌-◌}
use native.Mathlib.Omega.{arith}
use Rattle.marks.proofs.Numbers.{marks_page, marks_le, without_old, without_none}
use Rattle.marks.proofs.without_mark.Goals as goal

pub one_bit-requires : goal.one_bit-requires
one_bit-requires c =
    marks_page c.args.m c.args.p.0 c.ranges.m.fits (sym c.is_marked.ensures ∙ c.if-is_marked.true)

pub overflow_sub-result : goal.overflow_sub-result
overflow_sub-result c =
    omega (arith, c.one_bit.ensures, marks_le c.args.m c.args.p.0 (sym c.is_marked.ensures ∙ c.if-is_marked.true))

pub returns-then-is_marked : goal.returns-then-is_marked
returns-then-is_marked c =
    ap (λ (x : ℕ). c.args.m - x) c.one_bit.ensures ∙ without_old c.args.m c.args.p.0 (sym c.is_marked.ensures ∙ c.if-is_marked.true)

pub returns-else-is_marked : goal.returns-else-is_marked
returns-else-is_marked c =
    without_none c.args.m c.args.p.0 (sym c.is_marked.ensures ∙ c.if-is_marked.false)

-- Every lower power is no more than the number.
-- Assumes nothing.
use native.Mathlib.Omega.{arith}
use Prim.Native.Nat.{ℕ, suc, ◌^◌, ◌≤◌, ◌<◌}
use mathlib.Core.Path.{◌≡◌, sym, subst}
use Rattle.laws.proofs.Cases.{same?}
use borrow.Author.Tests.{leb-true, leb-false}
use Rattle.print.proofs.Decimal.{fewest}
use Rattle.print.proofs.places.Goals as goal

pub loop-k-init : goal.loop-k-init
loop-k-init c = (omega arith, omega arith, λ j h. absurd (omega arith))

pub overflow_add-k : goal.overflow_add-k
overflow_add-k c = omega arith

pub loop-k-smaller : goal.loop-k-smaller
loop-k-smaller c = omega arith

pub loop-k-preserved : goal.loop-k-preserved
loop-k-preserved c =
    let l = c.loop-k in (
      omega arith,
      omega arith,
      λ j h. same? (suc j) l.k (λ e. subst (λ (i : ℕ). 10 ^ i ≤ c.args.n) (sym e) (omega (arith, c.power.ensures, leb-true c.power.result c.args.n c.if-power-n.true-raw))) (λ e. l.invariant.2 j (omega arith)),
    )

pub returns-else-power-n : goal.returns-else-power-n
returns-else-power-n c =
    let l = c.loop-k in
    (fewest c.args.n l.k l.invariant.0 l.invariant.2 (omega (arith, c.power.ensures, leb-false c.power.result c.args.n c.if-power-n.false-raw)), l.invariant.1)

pub returns-after-loop-k : goal.returns-after-loop-k
returns-after-loop-k c =
    let l = c.loop-k in
    let e : l.k ≡ 20 = omega arith in
    (fewest c.args.n l.k l.invariant.0 l.invariant.2 (subst (λ (i : ℕ). c.args.n < 10 ^ i) (sym e) (omega (arith, c.ranges.n))), l.invariant.1)

-- The digit at a power of ten.
-- Assumes nothing.
use native.Mathlib.Omega.{arith}
use Prim.Native.Nat.{ℕ, ◌+◌, ◌/◌, ◌%◌}
use mathlib.Core.Path.{ap}
use Rattle.print.proofs.Decimal.{power_more}
use Rattle.print.proofs.digit_at.Goals as goal

pub nonzero_div-result : goal.nonzero_div-result
nonzero_div-result c = omega (arith, c.power.ensures, power_more c.args.i)

pub returns : goal.returns
returns c = ap (λ (q : ℕ). 48 + c.args.n / q % 10) c.power.ensures

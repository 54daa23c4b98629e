-- The digit is what is left of a quotient; past the last page there is none.
-- Assumes nothing.
use mathlib.Core.Path.{sym, ap}
use Prim.Native.Nat.{ℕ, ◌/◌, ◌%◌}
use native.Mathlib.Nat.{one-le-pow}
use native.Mathlib.Omega.{arith}
use lib.Dec.{eqb}
use Rattle.laws.specs.Bits.{bit}
use Rattle.marks.proofs.Numbers.{marks_past}
use Rattle.marks.proofs.is_marked.Goals as goal

pub nonzero_div-result : goal.nonzero_div-result
nonzero_div-result c = let s = c in omega (arith, c.one_bit.ensures, one-le-pow s.args.p.0 2 (omega arith))

pub returns-then-n-lt-PAGES : goal.returns-then-n-lt-PAGES
unfolding bit
returns-then-n-lt-PAGES c = let s = c in ap (λ (x : ℕ). eqb (s.args.m / x % 2) 1) c.one_bit.ensures

pub returns-else-n-lt-PAGES : goal.returns-else-n-lt-PAGES
returns-else-n-lt-PAGES c = let s = c in sym (marks_past s.args.m s.args.p.0 s.ranges.m.fits c.if-n-lt-PAGES.false)

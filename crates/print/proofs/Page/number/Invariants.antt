-- What is left to type: the last i digits.
use mathlib.Core.Path.{◌≡◌}
use Prim.Native.Nat.{◌<◌}
use Rattle.print.specs.Text.{digits, decimal_of}
use Rattle.print.specs.Pages.{typed_all_on}
use Rattle.print.proofs.Page.number.Given as goal

abbrev pub invariant-loop-i : goal.invariant-loop-i
invariant-loop-i l = (l.i < 21) × (typed_all_on l.self (digits l.i l.n) ≡ typed_all_on l.initial.self (decimal_of l.n))

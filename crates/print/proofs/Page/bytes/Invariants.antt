-- What is left to type, after so many bytes.
use mathlib.Core.Path.{◌≡◌}
use lib.ListN.{drop}
use Rattle.print.specs.Pages.{typed_all_on}
use Rattle.print.proofs.Page.bytes.Given as goal

abbrev pub invariant-loop-x : goal.invariant-loop-x
invariant-loop-x l = typed_all_on l.self (drop l.x-index l.s) ≡ typed_all_on l.initial.self l.s

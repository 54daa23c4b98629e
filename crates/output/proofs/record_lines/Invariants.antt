-- After i turns the lines of the first i answers are typed.
use Rattle.std.proofs.Common.{◌≡◌}
use Rattle.std.specs.List.{concat}
use Rattle.print.specs.Pages.{typed_all_on}
use Rattle.output.specs.Stream.{record_lines_from}
use Rattle.output.proofs.record_lines.Given as goal

abbrev pub invariant-loop-i : goal.invariant-loop-i
invariant-loop-i l = l.page ≡ typed_all_on l.initial.page (record_lines_from l.«before» l.i (concat l.answers))

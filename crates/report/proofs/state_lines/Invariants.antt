-- After each turn the lines of the rules so far are typed, and it is known whether they all hold.
use Rattle.host.specs.View.{view}
use Rattle.report.proofs.Reports.{Through}
use Rattle.report.proofs.state_lines.Given as goal

abbrev pub invariant-loop-rule : goal.invariant-loop-rule
invariant-loop-rule l = Through l.initial.page (view l.h) l.rule l.page l.all

-- After each turn the lines of the rules so far are typed, and it is known whether they all hold.
-- Assumes nothing.
use Rattle.host.specs.View.{view}
use Rattle.broken.proofs.Readings.{found_from}
use Rattle.report.proofs.Reports.{no_rules, one_more}
use Rattle.report.proofs.state_lines.Goals as goal

pub loop-rule-init : goal.loop-rule-init
loop-rule-init c = no_rules c.args.page.now (view c.args.h.now)

pub loop-rule-preserved : goal.loop-rule-preserved
loop-rule-preserved c =
    let a = c.args in
    one_more a.page.now (view a.h.now) c.loop-rule.rule c.loop-rule.invariant (found_from _ _ c.first_broken-f.ensures) c.is_holds-all.ensures c.finding_line.ensures

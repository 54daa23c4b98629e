-- Way 0 by the stealth page of the table in force; another is empty.
-- Assumes nothing.
use Rattle.std.proofs.Common.{rules, tests}
use Rattle.host.specs.View.{view}
use Rattle.lines.proofs.Stealth.{way_first}
use Rattle.lines.proofs.stealth_way.Goals as goal

pub returns-then-w-eq0 : goal.returns-then-w-eq0
returns-then-w-eq0 c = rw (c.if-w-eq0.true, c.first_way.ensures) (way_first (view c.args.h.now))

pub returns-else-w-eq0 : goal.returns-else-w-eq0
returns-else-w-eq0 c = search (rules, tests)

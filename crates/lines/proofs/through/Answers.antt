-- The policy asks, and where the line leads to a page both values answer.
-- Assumes nothing.
use Rattle.std.proofs.Common.{rules, tests}
use Rattle.lines.specs.Lines.{through}
use Rattle.lines.proofs.through.Goals as goal

pub returns : goal.returns
unfolding through
returns c = search (rules, tests)

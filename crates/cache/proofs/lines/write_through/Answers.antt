-- A read writes nothing; what is written goes to memory under write-through alone.
-- Assumes nothing.
use Rattle.std.proofs.Common.{rules, tests}
use Rattle.cache.specs.Lines.{through_for}
use Rattle.cache.proofs.lines.write_through.Goals as goal

pub returns-in_default : goal.returns-in_default
unfolding through_for
returns-in_default c = search (rules, tests)

pub returns-then-policy-eq-WRITE_THROUGH : goal.returns-then-policy-eq-WRITE_THROUGH
unfolding through_for
returns-then-policy-eq-WRITE_THROUGH c = search (rules, tests)

pub returns-else-policy-eq-WRITE_THROUGH : goal.returns-else-policy-eq-WRITE_THROUGH
unfolding through_for
returns-else-policy-eq-WRITE_THROUGH c = search (rules, tests)

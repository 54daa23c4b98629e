-- What counts is counted.
-- Assumes nothing.
use Rattle.std.proofs.Common.{rules, tests}
use Rattle.entries.proofs.Shared.{counted_law}
use Rattle.entries.proofs.counted_page.Goals as goal

pub returns-in_err-p : goal.returns-in_err-p
returns-in_err-p c = rw counted_law (search (rules, tests))

pub returns : goal.returns
returns c = rw counted_law (search (rules, tests))

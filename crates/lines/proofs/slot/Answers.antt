-- A page that is led to is tested; a slot that leads nowhere must be empty.
-- Assumes nothing.
use Rattle.std.proofs.Common.{rules, tests}
use Rattle.lines.specs.Lines.{slot_by, slotted}
use Rattle.seek.proofs.Leading.{kept_is}
use Rattle.lines.proofs.slot.Goals as goal

pub returns-in-Some : goal.returns-in-Some
unfolding slotted slot_by
returns-in-Some c = rw kept_is (search (rules, tests))

pub returns-in-None : goal.returns-in-None
unfolding slotted
returns-in-None c = rw kept_is (search (rules, tests))

-- The run, and its lines.
-- Assumes nothing.
use Rattle.std.proofs.Common.{rules}
use Rattle.host.specs.View.{view}
use Rattle.print.specs.Pages.{typed_all_on}
use Rattle.output.proofs.Room.{room_for, prints}
use Rattle.output.proofs.run.Goals as goal

pub lines_of-status-requires : goal.lines_of-status-requires
lines_of-status-requires c =
    let a = c.args in
    room_for (view a.h.now) a.j.now a.answers.now c.run-ran.ensures

pub returns : goal.returns
unfolding typed_all_on
returns c =
    let a = c.args in
    prints (view a.h.now) a.j.now a.answers.now a.out.now c.run-ran.ensures (search rules) c.lines_of-status.ensures.status

-- The loading, and what is printed of it.
-- Assumes nothing.
use Rattle.std.proofs.Common.{rules}
use Rattle.host.specs.View.{view}
use Rattle.print.specs.Pages.{typed_all_on}
use Rattle.output.proofs.Room.{prints_load}
use Rattle.output.proofs.load.Goals as goal

pub returns : goal.returns
unfolding typed_all_on
returns c =
    let a = c.args in
    prints_load (view a.h.now) a.image.now a.out.now c.load-loaded.ensures (search rules) c.load_lines-status.ensures.status

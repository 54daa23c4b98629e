-- Both ways of set 7, and its history.
-- Assumes nothing.
use Rattle.host.specs.View.{view}
use Rattle.lines.proofs.Stealth.{rule9_is}
use Rattle.lines.proofs.stealth_kept.Goals as goal

pub returns : goal.returns
returns c =
    rw (c.stealth_begun.ensures, c.stealth_way-2.ensures, c.stealth_way.ensures)
    (rule9_is (view c.args.h.now))

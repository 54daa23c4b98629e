-- The line is a way of its set.
-- Assumes nothing.
use Rattle.host.specs.View.{view}
use Rattle.cache.proofs.Whole.{line_replaced}
use Rattle.cache.proofs.lines.replace_line.Goals as goal

pub returns : goal.returns
returns c =
    let a = c.args in
    line_replaced (view a.h.now) a.i a.l c.load-s.result c.replaced.result _ c.load-s.ensures c.replaced.ensures c.put_back.ensures

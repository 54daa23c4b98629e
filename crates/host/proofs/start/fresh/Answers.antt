-- The first i bytes are the fresh machine's; at the end all are.
-- Assumes nothing.
use Rattle.std.proofs.Common.{rules}
use Rattle.host.proofs.FreshBytes.{filled_fresh}
use Rattle.host.proofs.start.fresh.Goals as goal

pub returns : goal.returns
returns c =
    let l = c.loop-i in
    filled_fresh l.h l.invariant.1 (λ j h. l.invariant.2 j (search rules))

-- Two numbers of four bytes are the map.
-- Assumes nothing.
use Rattle.host.proofs.Numbers.{free_get}
use Rattle.host.proofs.values.free.Goals as goal

pub returns : goal.returns
returns c = rw (c.word-b.ensures, c.word-a.ensures) (free_get c.args.h.now)

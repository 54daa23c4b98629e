-- The shift loses nothing.
-- Assumes nothing.
use Rattle.marks.proofs.Numbers.{one_shift}
use Rattle.marks.proofs.one_bit.Goals as goal

pub returns : goal.returns
returns c = one_shift c.args.n c.requires

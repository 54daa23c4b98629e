-- The counts, what stays and what follows it, and zeros.
-- Assumes nothing.
use Rattle.pieces.proofs.Bytes.{hold_law}
use Rattle.pieces.proofs.kept.hold.Goals as goal

pub returns : goal.returns
returns c =
    let a = c.args in
    hold_law a.k.now a.stays a.more.now c.told-k c.requires.fits c.copy_from_slice.ensures.after c.copy_from_slice-2.ensures.after c.copy_from_slice-3.ensures.after a.header

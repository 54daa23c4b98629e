-- The counts are in range, and the header goes on as far as it must.
-- Assumes nothing.
use native.Mathlib.Omega.{arith}
use Rattle.pieces.proofs.Heading.{in_range_law}
use Rattle.pieces.proofs.header.is_journal.Goals as goal

pub returns : goal.returns
returns c =
    let a = c.args in
    in_range_law a.k.now a.piece.now (omega arith) a.last c.from-taken.ensures (omega (arith, c.header_bytes.ensures)) (omega arith) c.else-last.either c.starts_with.ensures.value

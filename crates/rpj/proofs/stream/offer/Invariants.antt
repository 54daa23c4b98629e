-- Each call takes some of what is left of the piece.
-- Assumes nothing.
use Rattle.std.proofs.Common.{length}
use Rattle.rpj.proofs.stream.offer.Given as goal

abbrev pub decreases-loop-left : goal.decreases-loop-left
decreases-loop-left l = length l.left

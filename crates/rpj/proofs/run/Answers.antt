-- What was printed lies in the output's buffer.
-- Assumes nothing.
use Rattle.io.proofs.Counting.{length-take_of_le}
use Rattle.output.proofs.Room.{printed_inside}
use Rattle.rpj.proofs.run.Goals as goal

pub slice_bounds-out-end : goal.slice_bounds-out-end
slice_bounds-out-end c = printed_inside _ _ _ _ c.run-p.ensures

pub slice_bounds-put-end : goal.slice_bounds-put-end
slice_bounds-put-end c = length-take_of_le c.run-p.result.bytes c.run-p.new.out (printed_inside _ _ _ _ c.run-p.ensures)

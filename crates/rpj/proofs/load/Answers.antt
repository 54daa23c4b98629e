-- What was printed lies in the output's buffer.
-- Assumes nothing.
use Rattle.io.proofs.Counting.{length-take_of_le}
use Rattle.output.proofs.Room.{load_inside}
use Rattle.rpj.proofs.load.Goals as goal

pub slice_bounds-out-end : goal.slice_bounds-out-end
slice_bounds-out-end c = load_inside _ _ _ c.load-p.ensures

pub slice_bounds-put-end : goal.slice_bounds-put-end
slice_bounds-put-end c = length-take_of_le c.load-p.result.bytes c.load-p.new.out (load_inside _ _ _ c.load-p.ensures)

-- What was printed lies in the report's buffer.
-- Assumes nothing.
use Rattle.io.proofs.Counting.{length-take_of_le}
use Rattle.report.proofs.Whole.{image_inside}
use Rattle.rpj.proofs.check.Goals as goal

pub slice_bounds-out-end : goal.slice_bounds-out-end
slice_bounds-out-end c = image_inside _ _ c.of_image-p.ensures

pub slice_bounds-put-end : goal.slice_bounds-put-end
slice_bounds-put-end c = length-take_of_le c.of_image-p.result.bytes c.of_image-p.new.out (image_inside _ _ c.of_image-p.ensures)

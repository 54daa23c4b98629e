-- What was printed lies in the output's buffer; and a call that is not refused takes some of a piece, since its answers have room for a record.
-- Assumes nothing.
use Rattle.std.proofs.Common.{ap, arith}
use Rattle.io.proofs.Counting.{length-take_of_le}
use Rattle.print.specs.Status.{digit_of}
use Rattle.output.proofs.Streaming.{streamed_inside, taken_inside, taken_some}
use Rattle.rpj.proofs.stream.call.Goals as goal

pub slice_bounds-out-end : goal.slice_bounds-out-end
slice_bounds-out-end c = streamed_inside _ _ _ _ _ c.feed-s.ensures

pub slice_bounds-put-end : goal.slice_bounds-put-end
slice_bounds-put-end c = length-take_of_le c.feed-s.result.bytes c.feed-s.new.out (streamed_inside _ _ _ _ _ c.feed-s.ensures)

pub returns : goal.returns
returns c = (
  taken_inside _ _ _ _ _ c.feed-s.ensures,
  λ h. taken_some _ _ _ _ _ c.feed-s.ensures (ap digit_of (c.in_ok-put.ensures)) (omega arith) h,
)

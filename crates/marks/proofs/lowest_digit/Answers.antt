-- The lowest mark stands after the zeros at the number's end.
-- Assumes nothing.
use Rattle.laws.proofs.Bits.{trailing_lowest}
use Rattle.model.specs.Sizes.{pages}
use Rattle.model.specs.Checks.{lowest_free}
use Rattle.marks.proofs.lowest_digit.Goals as goal

pub returns : goal.returns
unfolding lowest_free
returns c = trailing_lowest pages c.args.m

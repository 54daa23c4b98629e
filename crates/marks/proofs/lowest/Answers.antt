-- The number past the last page is a byte, and none is larger.
-- Assumes nothing.
use native.Mathlib.Omega.{arith}
use Rattle.laws.specs.Bits.{marks}
use Rattle.laws.proofs.Search.{first_below_le}
use Rattle.model.specs.Sizes.{pages}
use Rattle.model.specs.Checks.{lowest_free}
use Rattle.marks.proofs.lowest.Goals as goal

pub overflow_cast-page : goal.overflow_cast-page
unfolding lowest_free
overflow_cast-page c =
    let m = c.args.m in
    omega (arith, c.lowest_digit-page.ensures, first_below_le (marks m) pages)

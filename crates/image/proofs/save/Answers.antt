-- The state, then the buffer's length.
-- Assumes nothing.
use Rattle.std.proofs.Common.{rules, tests}
use Rattle.model.specs.Image.{saved}
use Rattle.image.proofs.save.Goals as goal

pub returns-then-not-valid : goal.returns-then-not-valid
unfolding saved
returns-then-not-valid c = search (rules, tests)

pub returns-then-out-ne-SIZE : goal.returns-then-out-ne-SIZE
unfolding saved
returns-then-out-ne-SIZE c = search (rules, tests)

pub returns-else-out-ne-SIZE : goal.returns-else-out-ne-SIZE
unfolding saved
returns-else-out-ne-SIZE c = search (rules, tests)

-- Each field of the line is that of the state.
-- Assumes nothing.
use Rattle.cache.specs.Sets.{line_with}
use Rattle.cache.proofs.line_at.Goals as goal

pub returns : goal.returns
returns c i = line_with (c.line_address.ensures i) (c.line_held.ensures i) (c.line_value.ensures i)

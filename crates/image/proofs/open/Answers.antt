-- Its form alone decides.
-- Assumes nothing.
use Rattle.std.proofs.Common.{rules, tests}
use Rattle.model.specs.Image.{opened}
use Rattle.model.proofs.Image.{image⇔}
use Rattle.image.proofs.open.Goals as goal

pub returns-then-not-is_image : goal.returns-then-not-is_image
unfolding opened
returns-then-not-is_image c = search (rules, tests)

pub take-requires : goal.take-requires
take-requires c = (image⇔ c.args.image.now).0 (search (rules, tests))

pub returns : goal.returns
unfolding opened
returns c = search (rules, tests)

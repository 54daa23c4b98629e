-- Its form, then the state that it holds.
-- Assumes nothing.
use Rattle.std.proofs.Common.{rules, tests}
use Rattle.model.specs.Image.{loaded}
use Rattle.model.proofs.Image.{image⇔}
use Rattle.image.proofs.load.Goals as goal

pub returns-then-not-is_image : goal.returns-then-not-is_image
unfolding loaded
returns-then-not-is_image c = search (rules, tests)

pub take-requires : goal.take-requires
take-requires c = (image⇔ c.args.image.now).0 (search (rules, tests))

pub returns-then-not-valid : goal.returns-then-not-valid
unfolding loaded
returns-then-not-valid c = search (rules, tests)

pub returns : goal.returns
unfolding loaded
returns c = search (rules, tests)

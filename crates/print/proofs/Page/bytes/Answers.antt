-- What is left to type, after so many bytes.
-- Assumes nothing.
use borrow.Author.Rules.{rules}
use Rattle.print.proofs.Pages.{on_byte, on_end}
use Rattle.print.proofs.Page.bytes.Goals as goal

pub loop-x-preserved : goal.loop-x-preserved
loop-x-preserved c = on_byte c.loop-x.self c.args.s.now c.loop-x.x-index (search rules) c.byte.ensures c.loop-x.invariant

pub returns : goal.returns
returns c = on_end c.loop-x.self c.args.s.now c.loop-x.x-index c.loop-x-test.false c.loop-x.invariant

-- What is left to type: the last i digits.
-- Assumes nothing.
use mathlib.Core.Path.{ap, ◌∙◌}
use native.Mathlib.Omega.{arith}
use Rattle.print.specs.Pages.{typed_on}
use Rattle.print.proofs.Pages.{on_digit, no_digit}
use Rattle.print.proofs.Page.number.Goals as goal

pub loop-i-preserved : goal.loop-i-preserved
loop-i-preserved c =
    let n = c.args.n in (
      omega arith,
      on_digit c.loop-i.self n c.loop-i.i (omega arith) (c.byte.ensures ∙ ap (typed_on c.loop-i.self) c.digit_at.ensures) ∙ c.loop-i.invariant.1,
    )

pub returns : goal.returns
returns c = no_digit c.loop-i.self c.args.n c.loop-i.i (omega arith) ∙ c.loop-i.invariant.1

-- The test at each slot.
-- Assumes nothing.
use Rattle.std.proofs.Common.{rules, tests}
use mathlib.Core.Path.{◌∙◌}
use Rattle.model.specs.Sizes.{slots}
use Rattle.host.specs.View.{view}
use Rattle.lines.specs.Lines.{slotted}
use Rattle.rules.proofs.Chains.{all_numbers}
use Rattle.rules.proofs.Rules.{rule8_is}
use Rattle.rules.proofs.rule8.Goals as goal

pub returns : goal.returns
returns c =
    let s = view c.args.h.now in
    all_numbers (slotted s) slots (cc) c.all.ensures.ran (λ x b q k. search (rules, tests)) ∙ rule8_is s

-- The test at each line.
-- Assumes nothing.
use Rattle.std.proofs.Common.{rules, tests}
use mathlib.Core.Path.{◌∙◌}
use Rattle.model.specs.Sizes.{lines}
use Rattle.host.specs.View.{view}
use Rattle.lines.specs.Lines.{lined}
use Rattle.rules.proofs.Chains.{all_numbers}
use Rattle.rules.proofs.Rules.{rule7_is}
use Rattle.rules.proofs.rule7.Goals as goal

pub returns : goal.returns
returns c =
    let s = view c.args.h.now in
    all_numbers (lined s) lines (cc) c.all.ensures.ran (λ x b q k. search (rules, tests)) ∙ rule7_is s

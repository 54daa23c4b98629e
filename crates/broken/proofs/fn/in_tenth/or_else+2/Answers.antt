-- The empty ways.
-- Assumes nothing.
use Rattle.std.proofs.Common.{rules, tests}
use mathlib.Core.Path.{refl}
use Prim.Native.Nat.{◌+◌}
use Rattle.model.specs.Sizes.{lines}
use Rattle.host.specs.View.{view}
use Rattle.model.specs.RuleTests.{rule10_at_line}
use Rattle.model.specs.Broken.{part10_lines}
use Rattle.broken.specs.Findings.{field_parts}
use Rattle.broken.proofs.Chains.{one_part}
use Rattle.broken.proofs.fn.in_tenth.or_else+2.Goals as goal

pub returns : goal.returns
returns c =
    let s = view c.captures.h.now in
    one_part (part10_lines s) lines (rule10_at_line s) refl (λ i h. refl) (field_parts + 1) (cc) c.position-line.ensures.ran (λ i b q k. search (rules, tests)) c.in_part.ensures

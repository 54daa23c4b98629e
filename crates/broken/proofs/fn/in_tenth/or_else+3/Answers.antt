-- The empty slots.
-- Assumes nothing.
use Rattle.std.proofs.Common.{rules, tests}
use mathlib.Core.Path.{refl}
use Prim.Native.Nat.{◌+◌}
use Rattle.model.specs.Sizes.{slots}
use Rattle.host.specs.View.{view}
use Rattle.model.specs.RuleTests.{rule10_at_slot}
use Rattle.model.specs.Broken.{part10_slots}
use Rattle.broken.specs.Findings.{field_parts}
use Rattle.broken.proofs.Chains.{one_part}
use Rattle.broken.proofs.fn.in_tenth.or_else+3.Goals as goal

pub returns : goal.returns
returns c =
    let s = view c.captures.h.now in
    one_part (part10_slots s) slots (rule10_at_slot s) refl (λ i h. refl) (field_parts + 2) (cc) c.position-slot.ensures.ran (λ i b q k. search (rules, tests)) c.in_part.ensures

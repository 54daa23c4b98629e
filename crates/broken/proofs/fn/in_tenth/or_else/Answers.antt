-- The calls.
-- Assumes nothing.
use Rattle.std.proofs.Common.{rules, tests}
use mathlib.Core.Path.{refl}
use Rattle.model.specs.Sizes.{guests}
use Rattle.host.specs.View.{view}
use Rattle.model.specs.RuleTests.{rule10_at_call}
use Rattle.model.specs.Broken.{part10_calls}
use Rattle.broken.specs.Findings.{field_parts}
use Rattle.broken.proofs.Chains.{one_part}
use Rattle.broken.proofs.fn.in_tenth.or_else.Goals as goal

pub returns : goal.returns
returns c =
    let s = view c.captures.h.now in
    one_part (part10_calls s) guests (rule10_at_call s) refl (λ i h. refl) field_parts (cc) c.position-call.ensures.ran (λ i b q k. search (rules, tests)) c.in_part.ensures

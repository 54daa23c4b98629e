-- The second part only where the first holds.
-- Assumes nothing.
use Rattle.std.proofs.Common.{rules, tests}
use mathlib.Core.Path.{refl}
use mathlib.Core.List.{[], ◌∷◌}
use Rattle.model.specs.Sizes.{ways}
use Rattle.model.specs.State.{table}
use Rattle.model.specs.RuleTests.{rule9_at_way}
use Rattle.model.specs.Broken.{rule_parts, part9_ways, part9_history}
use Rattle.host.specs.View.{view}
use Rattle.broken.proofs.Chains.{one_part}
use Rattle.broken.proofs.Sequence.{then_parts}
use Rattle.broken.proofs.in_ninth.Goals as goal

pub returns : goal.returns
unfolding rule_parts
returns c =
    let s = view c.args.h.now in
    let C = s.shape.cache in
    then_parts (part9_ways s ∷ []) (part9_history s ∷ []) 0 1 _ _ refl
    (one_part (part9_ways s) ways (rule9_at_way s.shape.pages.entry C.line_address C.line_page (table s.shape)) refl (λ i h. refl) 0 (cc) c.position-way.ensures.ran (λ i b q k. search (rules, tests)) c.in_part.ensures)
    c.or_else.ensures
    (λ p. p)

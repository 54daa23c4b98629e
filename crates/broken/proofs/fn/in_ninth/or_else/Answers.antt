-- The history.
-- Assumes nothing.
use mathlib.Core.Path.{refl, ap, ◌∙◌}
use Rattle.std.specs.Option.{option_map}
use Rattle.model.specs.Broken.{part9_history}
use Rattle.host.specs.View.{view}
use Rattle.broken.proofs.Chains.{one_place}
use Rattle.broken.proofs.fn.in_ninth.or_else.Goals as goal

pub returns : goal.returns
returns c = one_place (part9_history (view c.captures.h.now)) 1 c.stealth_begun.result refl c.stealth_begun.ensures (c.in_part.ensures ∙ ap (option_map (λ i. (1, i))) c.then_some.ensures)

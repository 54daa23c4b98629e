-- The calls.
use mathlib.Core.Path.{◌≡◌}
use mathlib.Core.List.{[], ◌∷◌}
use Rattle.model.specs.Broken.{broken_from, part10_calls}
use Rattle.host.specs.View.{view}
use Rattle.broken.specs.Findings.{finding_of, field_parts}
use Rattle.broken.proofs.fn.in_tenth.or_else.Given as goal

abbrev pub ensures : goal.ensures
ensures l r = finding_of r ≡ broken_from field_parts (part10_calls (view l.h.entry.now) ∷ [])

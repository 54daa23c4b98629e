-- The history.
use mathlib.Core.Path.{◌≡◌}
use mathlib.Core.List.{[], ◌∷◌}
use Rattle.model.specs.Broken.{broken_from, part9_history}
use Rattle.host.specs.View.{view}
use Rattle.broken.specs.Findings.{finding_of}
use Rattle.broken.proofs.fn.in_ninth.or_else.Given as goal

abbrev pub ensures : goal.ensures
ensures l r = finding_of r ≡ broken_from 1 (part9_history (view l.h.entry.now) ∷ [])

-- The pages.
use mathlib.Core.Path.{◌≡◌}
use mathlib.Core.List.{[], ◌∷◌}
use Rattle.model.specs.Broken.{broken_from, part3_pages}
use Rattle.host.specs.View.{view}
use Rattle.broken.specs.Findings.{finding_of}
use Rattle.broken.proofs.fn.in_third.or_else.Given as goal

abbrev pub ensures : goal.ensures
ensures l r = finding_of r ≡ broken_from 1 (part3_pages (view l.h.entry.now) ∷ [])

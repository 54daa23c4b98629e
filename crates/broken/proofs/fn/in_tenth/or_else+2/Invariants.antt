-- The empty ways.
use mathlib.Core.Path.{◌≡◌}
use mathlib.Core.List.{[], ◌∷◌}
use Prim.Native.Nat.{◌+◌}
use Rattle.model.specs.Broken.{broken_from, part10_lines}
use Rattle.host.specs.View.{view}
use Rattle.broken.specs.Findings.{finding_of, field_parts}
use Rattle.broken.proofs.fn.in_tenth.or_else+2.Given as goal

abbrev pub ensures : goal.ensures
ensures l r = finding_of r ≡ broken_from (field_parts + 1) (part10_lines (view l.h.entry.now) ∷ [])

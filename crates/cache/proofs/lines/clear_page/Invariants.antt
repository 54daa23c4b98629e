-- One line more each turn.
use mathlib.Core.Path.{◌≡◌}
use Prim.Native.Nat.{◌≤◌}
use Rattle.model.specs.Sizes.{lines}
use Rattle.host.specs.View.{view}
use Rattle.cache.specs.Lines.{cleared_below}
use Rattle.cache.proofs.lines.clear_page.Given as goal

abbrev pub invariant-loop-i : goal.invariant-loop-i
invariant-loop-i l = (l.i ≤ lines) × (view l.h ≡ cleared_below l.i (view l.initial.h) l.p.0)

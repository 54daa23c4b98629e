-- One way more each turn, then the history.
use mathlib.Core.Path.{◌≡◌}
use Prim.Native.Nat.{◌≤◌}
use Rattle.model.specs.Sizes.{ways}
use Rattle.host.specs.View.{view}
use Rattle.cache.specs.Lines.{put_ways}
use Rattle.cache.proofs.put_set.Given as goal

abbrev pub invariant-loop-w : goal.invariant-loop-w
invariant-loop-w l = (l.w ≤ ways) × (view l.h ≡ put_ways l.w (view l.initial.h) l.k l.fn.s)

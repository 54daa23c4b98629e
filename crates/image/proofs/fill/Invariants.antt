-- The first i bytes are those that are given, and the others as they were.
use mathlib.Core.Path.{◌≡◌}
use Prim.Native.Nat.{◌≤◌}
use lib.ListN.{length, take, drop}
use Rattle.image.proofs.fill.Given as goal

abbrev pub invariant-loop-i : goal.invariant-loop-i
invariant-loop-i l =
    (l.i ≤ length l.from) × (length l.to ≡ length l.initial.to) × (take l.i l.to ≡ take l.i l.from) × (drop l.i l.to ≡ drop l.i l.initial.to)

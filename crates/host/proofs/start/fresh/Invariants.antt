-- The first i bytes are the fresh machine's; at the end all are.
use mathlib.Core.Path.{◌≡◌}
use Prim.Native.Nat.{ℕ, ◌≤◌, ◌<◌}
use lib.ListN.{length}
use Rattle.laws.specs.Choice.{at}
use Rattle.host.specs.View.{bytes}
use Rattle.host.specs.FreshBytes.{fresh_byte}
use Rattle.host.proofs.start.fresh.Given as goal

abbrev pub invariant-loop-i : goal.invariant-loop-i
invariant-loop-i l = (l.i ≤ bytes) × (length l.h ≡ bytes) × ((j : ℕ) → j < l.i → at l.h j ≡ fresh_byte j)

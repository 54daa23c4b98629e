-- After i turns the first i records are played, and the reader stands behind them.
use mathlib.Core.Path.{◌≡◌}
use Prim.Native.Nat.{◌+◌, ◌*◌, ◌-◌, ◌≤◌}
use Rattle.model.specs.Sizes.{record_bytes}
use Rattle.host.specs.View.{view}
use Rattle.steps.specs.Turns.{Plays}
use Rattle.steps.proofs.part.play.Given as goal

abbrev pub invariant-loop-i : goal.invariant-loop-i
invariant-loop-i l = record {
  in_range : l.i ≤ l.n;
  reads : l.reader.journal.now ≡ l.j;
  stands : l.reader.position ≡ l.start + record_bytes * l.i;
  counted : l.accepted ≤ l.i;
  played : Plays (view l.initial.h) l.j l.start l.i l.initial.out l.accepted (view l.h) l.out;
}

abbrev pub decreases-loop-i : goal.decreases-loop-i
decreases-loop-i l = l.n - l.i

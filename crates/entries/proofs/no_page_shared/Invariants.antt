-- Each page that was counted so far is remembered with its address; one that comes at another address ends the loop.
use Prim.Native.Nat.{◌+◌, ◌*◌}
use Rattle.model.specs.Sizes.{addresses}
use Rattle.host.specs.View.{view}
use Rattle.entries.proofs.Shared.{Seen}
use Rattle.entries.proofs.no_page_shared.Given as goal

abbrev pub invariant-loop-m : goal.invariant-loop-m
invariant-loop-m l = Seen (view l.h) l.seen (addresses * l.m)

abbrev pub invariant-loop-a : goal.invariant-loop-a
invariant-loop-a l = Seen (view l.h) l.seen (addresses * l.m + l.a-counter)

-- The fields passed so far hold; one that is broken ends the loop.
use mathlib.Core.Path.{◌≡◌}
use lib.ListN.{drop}
use Rattle.model.specs.RuleTests.{columns}
use Rattle.model.specs.Broken.{number_parts, broken_from}
use Rattle.host.specs.View.{view}
use Rattle.broken.proofs.in_fields.Given as goal

abbrev pub invariant-loop-k : goal.invariant-loop-k
invariant-loop-k l =
    let ps = number_parts (columns (view l.h)) in
    broken_from 0 ps ≡ broken_from l.k (drop l.k ps)

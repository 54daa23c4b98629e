-- The tests of the place are those of the definition, in its order.
-- Assumes nothing.
use native.Mathlib.Omega.{arith}
use borrow.Author.Tests.{lt-ltb, le-ltb}
use Rattle.laws.specs.Cut.{begin}
use Rattle.host.specs.View.{sizes, kind_field, cacheable_field, entry_field, physical_field}
use Rattle.host.specs.FreshBytes.{fresh_byte}
use Rattle.host.proofs.start.fresh_byte.Goals as goal

pub returns-then-i-lt-KIND_AT : goal.returns-then-i-lt-KIND_AT
unfolding fresh_byte
returns-then-i-lt-KIND_AT c = rw (lt-ltb c.args.i (begin sizes kind_field) (omega arith)) c.fresh_owner.ensures

pub returns-then-i-lt-CACHEABLE_AT : goal.returns-then-i-lt-CACHEABLE_AT
unfolding fresh_byte
returns-then-i-lt-CACHEABLE_AT c =
    let i = c.args.i in
    rw (le-ltb i (begin sizes kind_field) (omega arith), lt-ltb i (begin sizes cacheable_field) (omega arith)) c.fresh_kind.ensures

pub returns-then-i-lt-ENTRY_AT : goal.returns-then-i-lt-ENTRY_AT
unfolding fresh_byte
returns-then-i-lt-ENTRY_AT c =
    let i = c.args.i in
    rw (le-ltb i (begin sizes kind_field) (omega arith), le-ltb i (begin sizes cacheable_field) (omega arith), lt-ltb i (begin sizes entry_field) (omega arith))

pub returns-then-i-lt-PHYSICAL_AT : goal.returns-then-i-lt-PHYSICAL_AT
unfolding fresh_byte
returns-then-i-lt-PHYSICAL_AT c =
    let i = c.args.i in
    rw (
      le-ltb i (begin sizes kind_field) (omega arith),
      le-ltb i (begin sizes cacheable_field) (omega arith),
      le-ltb i (begin sizes entry_field) (omega arith),
      lt-ltb i (begin sizes physical_field) (omega arith),
    )

pub returns : goal.returns
unfolding fresh_byte
returns c =
    let i = c.args.i in
    rw (
      le-ltb i (begin sizes kind_field) (omega arith),
      le-ltb i (begin sizes cacheable_field) (omega arith),
      le-ltb i (begin sizes entry_field) (omega arith),
      le-ltb i (begin sizes physical_field) (omega arith),
    )
    c.later_byte.ensures

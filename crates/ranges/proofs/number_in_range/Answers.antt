-- The field's own number, or the byte that stands there, against the field's bound.
-- Assumes nothing.
use mathlib.Core.Path.{◌≡◌}
use mathlib.Core.Bool.{false}
use native.Mathlib.Omega.{arith}
use lib.Dec.{eqb}
use lib.ListN.{length}
use borrow.Author.Tests.{ne_eqb, lt-ltb, le-ltb}
use Rattle.std.proofs.Common.{rules, tests}
use Rattle.laws.proofs.Cases.{below?}
use Rattle.host.specs.View.{active_field, mode_field, policy_field}
use Rattle.ranges.specs.Ranges.{list_bounds, number_in_range}
use Rattle.ranges.proofs.number_in_range.Goals as goal

pub returns-in-10 : goal.returns-in-10
unfolding number_in_range
returns-in-10 c = search (rules, tests)

pub returns-in-11 : goal.returns-in-11
unfolding number_in_range
returns-in-11 c = search (rules, tests)

pub returns-in-19 : goal.returns-in-19
unfolding number_in_range
returns-in-19 c = search (rules, tests)

pub returns-in_default : goal.returns-in_default
unfolding number_in_range
returns-in_default c =
    let f = c.args.field in
    let x : eqb f active_field ≡ false = ne_eqb f active_field (λ e. omega arith) in
    let y : eqb f mode_field ≡ false = ne_eqb f mode_field (λ e. omega arith) in
    let z : eqb f policy_field ≡ false = ne_eqb f policy_field (λ e. omega arith) in
    rw (x, y, z)
    (below? f (length list_bounds)
    (λ h. rw (lt-ltb f (length list_bounds) h) (search (rules, tests)))
    (λ h. rw (le-ltb f (length list_bounds) h) (search (rules, tests))))

-- The call of the number if its bytes are these, and else none.
use Rattle.std.proofs.Common.{rules, tests}
use Rattle.numbers.specs.Calls.{call_of}
use Rattle.numbers.proofs.calls.CallFromCallBytes.from.Goals as goal

pub returns-then-eq : goal.returns-then-eq
unfolding call_of
returns-then-eq c = let e = c.eq.ensures in search (rules, tests)

pub returns-else-eq : goal.returns-else-eq
unfolding call_of
returns-else-eq c = search (rules, tests)

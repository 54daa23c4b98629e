-- What the table of damaged states says of every rule, not only of the one that a row is about.
-- Assumes nothing.
use Rattle.std.specs.Prelude.{Bool, ◌&&◌, not, [], ◌++◌, eqb}
use Rattle.std.specs.Bool.{beq}
use Rattle.laws.specs.Search.{all_in, some_in}
use Rattle.model.specs.State.{State}
use Rattle.model.specs.Fresh.{fresh}
use Rattle.model.specs.Valid.{valid?}
use Rattle.model.specs.Step.{judge, step, number_of}
use Rattle.model.specs.Journal.{journal_refusal}
use Rattle.model.specs.Samples.{passes, maps, yields, nine}
use Rattle.model.specs.Damage.{rule_tests, Damage}
use Rattle.model.specs.Damaged.{in_use}

-- the sizes are right, and the rules that are broken are those that the row lists
unfoldable pub told : State → Damage → Bool
told s d = all_in (λ n t. beq (t s) (not (some_in (λ i k. eqb k n) d.broken))) rule_tests

-- the machine in use is valid, and one with a shared page that is not cacheable
unfoldable pub valid_ends : Bool
valid_ends = passes judge fresh in_use valid? && passes judge fresh (nine ++ maps 1 1 ++ yields 1 300) valid?

-- on a valid state the other checks are given: bytes that are no record, a journal that has no header
unfoldable pub fresh_judged : Bool
fresh_judged = eqb (number_of (step fresh []).answer) 2 && eqb (journal_refusal fresh [] []) 13

-- The same journal on two hosts, whole and in pieces, by what `journal::run` and `pieces::feed` say and the bytes that they leave.
-- Assumes nothing.
use Rattle.std.specs.Prelude.{◌≡◌, List, ℕ, Result}
use Rattle.history.specs.Policies.{Alike}
use Rattle.host.specs.View.{view}
use Rattle.numbers.specs.declared.refusal.Refusal.{Refusal}
use Rattle.journal.specs.declared.Report.{Report}

-- A journal led one host from the bytes x to y, with the verdict v and the answer buffer c, and another from z to t, with w and d: the verdicts with
-- their reports are equal, the buffers to the byte, and the hosts but for the policy, which stays on each, and memory's values.
pub record SameAnswers (x y z t : List ℕ) (v w : Result Report Refusal) (c d : List ℕ) : Type 0 where
  pub verdict : w ≡ v
  pub buffer : d ≡ c
  pub alike : Alike (view y) (view t)
  pub first_policy : (view y).shape.policy ≡ (view x).shape.policy
  pub second_policy : (view t).shape.policy ≡ (view z).shape.policy

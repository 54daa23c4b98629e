-- The write policy changes no answer: two hosts that are alike but for the policy and the values in memory, and a run on each.
-- Assumes nothing.
use Rattle.std.specs.Prelude.{◌≡◌, List, ℕ}
use Rattle.model.specs.State.{State, present}
use Rattle.model.specs.Parts.{with_policy}
use Rattle.model.specs.Run.{run}
use Rattle.model.specs.Journal.{After}

-- All but the policy and the values in memory are the same: every other number, each line's value, and the present value of each page.
pub record Alike (s t : State) : Type 0 where
  pub shape : with_policy t.shape s.shape.policy ≡ s.shape
  pub line : t.values.line ≡ s.values.line
  pub present : (p : ℕ) → present t p ≡ present s p

-- The same records on both: equal answers, numbers and values, and states that are alike again. Each policy stays.
pub record SameRuns (s t : State) (rs : List (List ℕ)) : Type 0 where
  pub answers : (run t rs).answers ≡ (run s rs).answers
  pub alike : Alike (run s rs).state (run t rs).state
  pub first_policy : (run s rs).state.shape.policy ≡ s.shape.policy
  pub second_policy : (run t rs).state.shape.policy ≡ t.shape.policy

-- What one journal gave on each, a on s and c on t: the same verdict with its report, the same buffer to the byte, and states that are alike, each with
-- its policy.
pub record SameJournal (s t : State) (a c : After) : Type 0 where
  pub verdict : c.verdict ≡ a.verdict
  pub buffer : c.buffer ≡ a.buffer
  pub alike : Alike a.state c.state
  pub first_policy : a.state.shape.policy ≡ s.shape.policy
  pub second_policy : c.state.shape.policy ≡ t.shape.policy

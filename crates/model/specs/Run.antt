-- A run over records: the fold of a step, with no limit and no header.
-- Assumes nothing.
use Rattle.std.specs.Prelude.{List, [], ◌∷◌, ℕ}
use Rattle.model.specs.State.{State}
use Rattle.model.specs.Step.{Answer, Outcome, step}

-- the answers, first record first, and the state after the last
pub record Ran : Type 0 where
  pub answers : List Answer
  pub state : State

-- a refused record does not stop the run
unfoldable pub run_by : (State → List ℕ → Outcome) → State → List (List ℕ) → Ran
run_by f s [] = record { answers = []; state = s }
run_by f s (r ∷ rs) =
    let o = f s r in
    let t = run_by f o.state rs in
    record { answers = o.answer ∷ t.answers; state = t.state }

abbrev pub run : State → List (List ℕ) → Ran
run s rs = run_by step s rs

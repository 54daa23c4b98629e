-- A run, a save, a load and a run are one run: docs/HOST.md, "Images".
-- Assumes nothing.
use Rattle.std.specs.Prelude.{◌≡◌, List, ◌++◌, ℕ}
use Rattle.model.specs.State.{State}
use Rattle.model.specs.Run.{run}
use Rattle.model.specs.Image.{done, Read, loaded, saved}

-- what loading over the state t answers and leaves, of the state after the records xs, saved to the buffer b
abbrev pub back : State → State → List ℕ → List (List ℕ) → Read
back s t b xs = loaded t (saved (run s xs).state b).buffer

pub record OneRun (s t : State) (b : List ℕ) (xs ys : List (List ℕ)) : Type 0 where
  pub saves : (saved (run s xs).state b).answer ≡ done
  pub loads : (back s t b xs).answer ≡ done
  pub answers : (run s xs).answers ++ (run (back s t b xs).state ys).answers ≡ (run s (xs ++ ys)).answers
  pub state : (run (back s t b xs).state ys).state ≡ (run s (xs ++ ys)).state

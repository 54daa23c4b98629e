-- A run over records, taken apart.
-- Assumes nothing.
use mathlib.Core.Path.{◌≡◌, refl, ap}
use mathlib.Core.List.{List, [], ◌∷◌, ◌++◌}
use Prim.Native.Nat.{ℕ, suc}
use lib.ListN.{length}
use Rattle.model.specs.State.{State}
use Rattle.model.specs.Step.{Outcome}
use Rattle.model.specs.Run.{Ran, run_by}

-- records one after the other: the second run starts where the first ended
abbrev pub and_then : Ran → Ran → Ran
and_then a b = record { answers = a.answers ++ b.answers; state = b.state }

pub run_append : (f : State → List ℕ → Outcome) (s : State) (rs qs : List (List ℕ))
    → run_by f s (rs ++ qs) ≡ and_then (run_by f s rs) (run_by f (run_by f s rs).state qs)
unfolding run_by
run_append f s [] qs = refl
run_append f s (r ∷ rs) qs =
    ap (λ (t : Ran). record { answers = (f s r).answer ∷ t.answers; state = t.state }) (run_append f (f s r).state rs qs)

-- an answer for each record
pub run_length : (f : State → List ℕ → Outcome) (s : State) (rs : List (List ℕ)) → length (run_by f s rs).answers ≡ length rs
unfolding run_by
run_length f s [] = refl
run_length f s (r ∷ rs) = ap suc (run_length f (f s r).state rs)

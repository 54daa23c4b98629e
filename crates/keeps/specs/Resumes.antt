-- Any guest runs again within three records, whatever call it has: docs/HOST.md, "Records and answers".
-- Assumes nothing.
use Rattle.std.specs.Prelude.{◌≡◌, Bool, ◌≢◌, List, [], ◌∷◌, ◌++◌, map, ℕ, ◌≤◌, eqb, length}
use Rattle.laws.specs.Choice.{pick, at}
use Rattle.model.specs.Names.{running}
use Rattle.model.specs.State.{Shape, State, active}
use Rattle.model.specs.Records.{Action, switch, chmod, drop, call_none, encode}
use Rattle.model.specs.Step.{Answer, done, refused}
use Rattle.model.specs.Run.{Ran, run}

-- guest g has no pending call
abbrev pub is_idle : Shape → ℕ → Bool
is_idle h g = eqb (at h.guests.call g) call_none

-- What the host sends to let guest g run: drop, exactly if g has a pending call; then switch and chmod.
abbrev pub resume : Shape → ℕ → List Action
resume h g = pick (is_idle h g) [] (drop g ∷ []) ++ (switch g ∷ chmod ∷ [])

-- all three, without looking
abbrev pub resume_blindly : ℕ → List Action
resume_blindly g = drop g ∷ switch g ∷ chmod ∷ []

-- the records of these actions, one after another
abbrev pub sent : State → List Action → Ran
sent s xs = run s (map encode xs)

-- from shape h to shape k: guest g is active and runs, and every other guest's call is as it was, by its number and its arguments
pub record Resumed (h k : Shape) (g : ℕ) : Type 0 where
  pub is_active : active k ≡ g
  pub runs : k.guests.mode ≡ running
  pub others : (i : ℕ) → i ≢ g
      → (at k.guests.call i ≡ at h.guests.call i) × (at k.guests.call_a i ≡ at h.guests.call_a i)
      × (at k.guests.call_b i ≡ at h.guests.call_b i)

-- the answer to a drop that was sent without looking
abbrev pub declined : Shape → ℕ → Answer
declined h g = pick (is_idle h g) (refused 4) (done 0)

pub record Resumes (s : State) (g : ℕ) : Type 0 where
  -- at most three records, each is accepted, and then g runs
  pub few : length (resume s.shape g) ≤ 3
  pub accepted : (sent s (resume s.shape g)).answers ≡ map (λ x. done 0) (resume s.shape g)
  pub resumed : Resumed s.shape (sent s (resume s.shape g)).state.shape g
  -- without looking: 4 where there is no call to drop, else 0; then 0 and 0; and the same state
  pub blind : (sent s (resume_blindly g)).answers ≡ declined s.shape g ∷ done 0 ∷ done 0 ∷ []
  pub same : (sent s (resume_blindly g)).state ≡ (sent s (resume s.shape g)).state

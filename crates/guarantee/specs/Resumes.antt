-- Any guest runs again within three records, by what `steps::step` answers and the bytes that it leaves.
-- Assumes nothing.
use Rattle.std.specs.Prelude.{◌≡◌, List, [], ◌∷◌, map, ℕ, Result, Ok}
use Rattle.model.specs.Records.{Action, encode}
use Rattle.model.specs.Step.{done}
use Rattle.keeps.specs.Resumes.{resume, resume_blindly, Resumed, declined}
use Rattle.host.specs.View.{view, Whole}
use Rattle.numbers.specs.declared.refusal.Refusal.{Refusal}
use Rattle.steps.specs.Promises.{answer_from}
use Rattle.guarantee.specs.Guarantee.{Folds}

-- `step` on the records of these actions, one after another: from the host's bytes x to the bytes y, with these answers
abbrev pub StepsOn : List ℕ → List Action → List (Result ℕ Refusal) → List ℕ → Type 0
StepsOn x actions answers y = Folds (view x) (map encode actions) answers (view y)

-- What `Resumes` in crates/keeps/specs/Resumes.antt says of records that are sent, by whatever answers and bytes keep the promise of `step`: the guest
-- runs, be they sent with looking or without, and both ways leave the same bytes.
pub record ResumesOn (x : List ℕ) (g : ℕ) : Type 0 where
  pub accepted : (ys : List (Result ℕ Refusal)) (y : List ℕ) → StepsOn x (resume (view x).shape g) ys y → ys ≡ map (λ a. Ok 0) (resume (view x).shape g)
  pub resumed : (ys : List (Result ℕ Refusal)) (y : List ℕ) → StepsOn x (resume (view x).shape g) ys y → Resumed (view x).shape (view y).shape g
  pub blind : (ys : List (Result ℕ Refusal)) (y : List ℕ) → StepsOn x (resume_blindly g) ys y → map answer_from ys ≡ declined (view x).shape g ∷ done 0 ∷ done 0 ∷ []
  pub blindly : (ys : List (Result ℕ Refusal)) (y : List ℕ) → StepsOn x (resume_blindly g) ys y → Resumed (view x).shape (view y).shape g
  pub same : (ys zs : List (Result ℕ Refusal)) (y z : List ℕ) → Whole y → Whole z → StepsOn x (resume_blindly g) ys y → StepsOn x (resume (view x).shape g) zs z
      → y ≡ z

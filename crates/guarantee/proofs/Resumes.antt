-- Any guest runs again within three records: the theorem of crates/keeps/proofs/Resumes.antt for `steps::step` on the host's bytes.
-- Assumes nothing.
use mathlib.Core.Path.{◌≡◌, refl, sym, ap₂, subst, ◌∙◌}
use mathlib.Core.List.{List, [], ◌∷◌, map}
use Prim.Native.Nat.{ℕ, ◌<◌}
use Rattle.model.specs.Sizes.{guests}
use Rattle.model.specs.Names.{waiting}
use Rattle.model.specs.State.{State}
use Rattle.model.specs.Records.{Action, encode}
use Rattle.model.specs.Valid.{Valid}
use Rattle.model.specs.Step.{Answer, done}
use Rattle.keeps.specs.Resumes.{resume, resume_blindly, sent, Resumed}
use Rattle.keeps.proofs.Resumes.{host_resumes}
use Rattle.host.specs.View.{view}
use Rattle.host.proofs.Inverse.{view_inj}
use Rattle.std.specs.Prelude.{Result, Ok}
use Rattle.numbers.specs.declared.refusal.Refusal.{Refusal}
use Rattle.steps.specs.Promises.{answer_from}
use Rattle.steps.proofs.Refusals.{one_answer_from}
use Rattle.guarantee.specs.Guarantee.{Folds}
use Rattle.guarantee.specs.Resumes.{ResumesOn}
use Rattle.guarantee.proofs.Folds.{folds_run}

-- all done in the model, and so in code
all_done : (xs : List Action) (ys : List (Result ℕ Refusal)) → map answer_from ys ≡ map (λ x. done 0) xs → ys ≡ map (λ x. Ok 0) xs
all_done [] [] e = refl
all_done [] (y ∷ ys) e = cc
all_done (x ∷ xs) [] e = cc
all_done (x ∷ xs) (y ∷ ys) e = ap₂ ◌∷◌ (one_answer_from y (Ok 0) (cc)) (all_done xs ys (cc))

module _ (s t : State) (xs : List Action) (ys : List (Result ℕ Refusal)) (p : Folds s (map encode xs) ys t) where
  answers_are : {l : List Answer} → (sent s xs).answers ≡ l → map answer_from ys ≡ l
  answers_are e = (folds_run s t (map encode xs) ys p).0 ∙ e

  ends_at : t ≡ (sent s xs).state
  ends_at = (folds_run s t (map encode xs) ys p).1

pub step_resumes : (x : List ℕ) → Valid (view x) → (view x).shape.guests.mode ≡ waiting → (g : ℕ) → g < guests → ResumesOn x g
step_resumes x v m g h =
    let r = host_resumes v m g h in
    let s = view x in
    let xs = resume s.shape g in
    record {
      accepted = λ ys y p. all_done xs ys (answers_are s (view y) xs ys p r.accepted);
      resumed = λ ys y p. subst (λ (t : State). Resumed s.shape t.shape g) (sym (ends_at s (view y) xs ys p)) r.resumed;
      blind = λ ys y p. answers_are s (view y) (resume_blindly g) ys p r.blind;
      blindly = λ ys y p. subst (λ (t : State). Resumed s.shape t.shape g) (sym (ends_at s (view y) (resume_blindly g) ys p ∙ r.same)) r.resumed;
      same = λ ys zs y z w u p q. view_inj y z w u (ends_at s (view y) (resume_blindly g) ys p ∙ r.same ∙ sym (ends_at s (view z) xs zs q));
    }

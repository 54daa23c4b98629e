-- Demand 3 of `step`, record after record: from any state to which a past led, and from the fresh machine.
-- Assumes nothing.
use mathlib.Core.Path.{◌≡◌, refl, sym, ap, ap₂, subst, ◌∙◌}
use mathlib.Core.List.{List, [], ◌∷◌, map}
use Prim.Native.Nat.{ℕ, ◌<◌}
use Rattle.laws.proofs.Search.{Each}
use Rattle.model.specs.Sizes.{policies}
use Rattle.model.specs.State.{State}
use Rattle.model.specs.Fresh.{fresh_with}
use Rattle.model.specs.Records.{Bytes}
use Rattle.model.specs.Step.{Answer, number_of, value_of}
use Rattle.model.specs.Run.{run, run_by}
use Rattle.history.specs.Past.{Book, Past, fresh_book, past_after, values_after}
use Rattle.history.specs.Rations.{Kept}
use Rattle.history.proofs.Rations.{rations_on, fresh_kept}
use Rattle.std.specs.Prelude.{Result}
use Rattle.numbers.specs.declared.refusal.Refusal.{Refusal}
use Rattle.steps.specs.Promises.{answer_from}
use Rattle.guarantee.specs.Guarantee.{Folds}

-- the answers and the state of `step`, record after record, are those of the model's run
pub folds_run : (s t : State) (rs : List (List ℕ)) (xs : List (Result ℕ Refusal)) → Folds s rs xs t → (map answer_from xs ≡ (run s rs).answers) × (t ≡ (run s rs).state)
unfolding run_by
folds_run s t [] [] h = (refl, h)
folds_run s t [] (x ∷ xs) h = absurd h
folds_run s t (r ∷ rs) [] h = absurd h
folds_run s t (r ∷ rs) (x ∷ xs) h =
    let q = folds_run h.0 t rs xs h.2 in
    let e = h.1.state in (
      ap₂ ◌∷◌ h.1.answer (q.0 ∙ ap (λ (u : State). (run u rs).answers) e),
      q.1 ∙ ap (λ (u : State). (run u rs).state) e,
    )

module _ {b : Book} {s : State} {past : Past} {u : State} (k : Kept b s past u) (rs : List (List ℕ)) (w : Each Bytes rs) (xs : List (Result ℕ Refusal)) (t : State)
    (p : Folds u rs xs t) where
  abbrev given : List Answer
  given = map answer_from xs

  same_answers : (run u rs).answers ≡ given
  same_answers = sym (folds_run u t rs xs p).0

  -- what the state holds, by the actions whose answers' numbers are 0
  pub steps_keep : Kept b s (past_after past rs (map number_of given)) t
  steps_keep =
      subst (λ (l : List Answer). Kept b s (past_after past rs (map number_of l)) t) same_answers
      (subst (λ (x : State). Kept b s (past_after past rs (map number_of (run u rs).answers)) x) (sym (folds_run u t rs xs p).1) (rations_on k rs w).kept)

  -- and what each record answered
  pub steps_answer : map value_of given ≡ values_after b past rs (map number_of given)
  steps_answer =
      subst (λ (l : List Answer). map value_of l ≡ values_after b past rs (map number_of l)) same_answers (rations_on k rs w).answers

-- from the fresh machine, with any policy
module _ (policy : ℕ) (known : policy < policies) where
  pub fresh_keep : (rs : List (List ℕ)) → Each Bytes rs → (xs : List (Result ℕ Refusal)) (t : State) → Folds (fresh_with policy) rs xs t
      → Kept fresh_book (fresh_with policy) (past_after [] rs (map number_of (map answer_from xs))) t
  fresh_keep = steps_keep (fresh_kept policy known)

  pub fresh_answer : (rs : List (List ℕ)) → Each Bytes rs → (xs : List (Result ℕ Refusal)) (t : State) → Folds (fresh_with policy) rs xs t
      → map value_of (map answer_from xs) ≡ values_after fresh_book [] rs (map number_of (map answer_from xs))
  fresh_answer = steps_answer (fresh_kept policy known)

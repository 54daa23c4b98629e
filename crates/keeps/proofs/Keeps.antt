-- Valid states lead only to valid states: every action, any bytes, any run.
-- Assumes nothing.
use mathlib.Core.Path.{◌≡◌, refl, ap, ◌∙◌}
use mathlib.Core.List.{List, [], ◌∷◌}
use Prim.Native.Nat.{ℕ, ◌<◌}
use Rattle.laws.proofs.Search.{Each}
use Rattle.model.specs.Sizes.{policies}
use Rattle.model.specs.State.{State}
use Rattle.model.specs.Fresh.{fresh_with}
use Rattle.model.specs.Records.{Bytes}
use Rattle.model.specs.Valid.{Valid}
use Rattle.model.specs.Step.{Outcome, judge, step}
use Rattle.model.specs.Run.{Ran, run_by, run}
use Rattle.keeps.proofs.Accepted.{stepped, step_judge}
use Rattle.keeps.proofs.Fresh.{fresh_valid}
pub use Rattle.keeps.proofs.Judging.{lowest_free_law, unused, next_valid, judge_keeps}

pub step_keeps : {s : State} → Valid s → (l : List ℕ) → Bytes l → Valid (step s l).state
step_keeps {s} v l b = stepped (λ o. Valid o.state) s l (λ n. v) (λ w. judge_keeps w l b)

-- ---- runs

pub run_keeps : {s : State} → Valid s → (rs : List (List ℕ)) → Each Bytes rs → Valid (run s rs).state
unfolding run_by
run_keeps v [] b = v
run_keeps {s} v (r ∷ rs) b = run_keeps {s = (step s r).state} (step_keeps v r b.0) rs b.1

-- on a valid state a run needs no check 1
pub run_judges : {s : State} → Valid s → (rs : List (List ℕ)) → Each Bytes rs → run s rs ≡ run_by judge s rs
unfolding run_by
run_judges v [] b = refl
run_judges {s} v (r ∷ rs) b =
    ap (λ (o : Outcome). after o (run_by step o.state rs)) (step_judge s r v)
    ∙ ap (after (judge s r)) (run_judges {s = (judge s r).state} (judge_keeps v r b.0) rs b.1)
  where
    after : Outcome → Ran → Ran
    after o t = record { answers = o.answer ∷ t.answers; state = t.state }

pub fresh_run : (p : ℕ) → p < policies → (rs : List (List ℕ)) → Each Bytes rs → Valid (run (fresh_with p) rs).state
fresh_run p h rs b = run_keeps (fresh_valid p h) rs b

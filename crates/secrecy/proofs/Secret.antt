-- Secrecy: what is seen of a run is a function of its told records and of the state with g hidden. So two runs that have these alike look the same.
-- Assumes nothing.
use mathlib.Core.Path.{◌≡◌, refl, sym, ap, ap₂, ◌∙◌}
use mathlib.Core.Bool.{false}
use mathlib.Core.List.{List, [], ◌∷◌}
use Prim.Native.Nat.{ℕ, suc}
use lib.Dec.{eqb}
use Rattle.laws.specs.Choice.{pick}
use Rattle.laws.proofs.Cases.{split, pick_not}
use Rattle.model.specs.State.{State, active}
use Rattle.model.specs.Records.{Bytes}
use Rattle.model.specs.Valid.{Valid}
use Rattle.model.specs.Step.{Outcome, number_of, value_of, judge, step}
use Rattle.model.specs.Run.{run_by, run}
use Rattle.keeps.proofs.Keeps.{step_keeps}
use Rattle.secrecy.specs.Secrecy.{is_active, hidden, told, hide, open_by, open_records, Sight, sight, seen_by, seen, AllBytes, SameStep, SameSeen, Secret}
use Rattle.secrecy.proofs.Step.{step_shown, sight_shown, hidden_leaves}

-- ---- what told records show, from a state with g hidden

-- the state after a told record, with g hidden
abbrev hidden_after : ℕ → State → List ℕ → State
hidden_after g h o = hide g (judge h o).state

unfoldable shown : ℕ → State → List (List ℕ) → List Sight
shown g h [] = []
shown g h (o ∷ os) = sight g h (judge h o) ∷ shown g (hidden_after g h o) os

unfoldable left_by : ℕ → State → List (List ℕ) → State
left_by g h [] = h
left_by g h (o ∷ os) = left_by g (hidden_after g h o) os

-- a run shows just this
module _ (g : ℕ) where
  seen_shown : {s : State} → Valid s → (rs : List (List ℕ)) → AllBytes rs → seen g s rs ≡ shown g (hide g s) (open_records g s rs)
  unfolding seen_by open_by shown
  seen_shown v [] b = refl
  seen_shown {s} v (r ∷ rs) b =
      let ih = seen_shown {s = (step s r).state} (step_keeps v r (b 0)) rs (λ i. b (suc i)) in
      split (hidden g s r)
      (λ e. rw e (ih ∙ ap (λ (h : State). shown g h (open_records g (step s r).state rs)) (hidden_leaves g v r (b 0) e)))
      (λ e. rw e
      (ap₂ (λ (x : Sight) (l : List Sight). x ∷ l) (sight_shown g v r (b 0))
      (ih ∙ ap (λ (h : State). shown g h (open_records g (step s r).state rs)) (step_shown g v r (b 0)).after)))

  left_shown : {s : State} → Valid s → (rs : List (List ℕ)) → AllBytes rs → hide g (run s rs).state ≡ left_by g (hide g s) (open_records g s rs)
  unfolding run_by open_by left_by
  left_shown v [] b = refl
  left_shown {s} v (r ∷ rs) b =
      let ih = left_shown {s = (step s r).state} (step_keeps v r (b 0)) rs (λ i. b (suc i)) in
      split (hidden g s r)
      (λ e. rw e (ih ∙ ap (λ (h : State). left_by g h (open_records g (step s r).state rs)) (hidden_leaves g v r (b 0) e)))
      (λ e. rw e (ih ∙ ap (λ (h : State). left_by g h (open_records g (step s r).state rs)) (step_shown g v r (b 0)).after))

-- ---- the theorems

-- from two valid states that are the same with g hidden
pub secret_from : (g : ℕ) (s t : State) → Valid s → Valid t → hide g s ≡ hide g t → (rs qs : List (List ℕ)) → AllBytes rs → AllBytes qs
    → open_records g s rs ≡ open_records g t qs → SameSeen step g s t rs qs
secret_from g s t v w e rs qs b c h =
    record {
      seen = seen_shown g v rs b ∙ ap₂ (shown g) e h ∙ sym (seen_shown g w qs c);
      left = left_shown g v rs b ∙ ap₂ (left_by g) e h ∙ sym (left_shown g w qs c);
    }

-- The theorem to quote: the host keeps every guest's secret.
pub secret : Secret step
secret g s v = secret_from g s s v v refl

-- one record on each of two such states
pub step_same : (g : ℕ) (s t : State) → Valid s → Valid t → hide g s ≡ hide g t → (r q : List ℕ) → Bytes r → Bytes q → told g s r ≡ told g t q → SameStep g s t r q
unfolding hide
step_same g s t v w e r q b c h =
    let x = step_shown g v r b in
    let y = step_shown g w q c in
    let z : judge (hide g s) (told g s r) ≡ judge (hide g t) (told g t q) = ap₂ judge e h in
    let k : active s.shape ≡ active t.shape = ap (λ (u : State). active u.shape) e in
    record {
      number = x.number ∙ ap (λ (o : Outcome). number_of o.answer) z ∙ sym y.number;
      value = λ n.
          let m : is_active g t ≡ false = ap (λ (j : ℕ). eqb j g) (sym k) ∙ n in
          sym (pick_not 0 (value_of (step s r).answer) n) ∙ x.value ∙ pick_not 0 (value_of (judge (hide g s) (told g s r)).answer) n
          ∙ ap (λ (o : Outcome). value_of o.answer) z
          ∙ sym (sym (pick_not 0 (value_of (step t q).answer) m) ∙ y.value ∙ pick_not 0 (value_of (judge (hide g t) (told g t q)).answer) m);
      after = x.after ∙ ap (λ (o : Outcome). hide g o.state) z ∙ sym y.after;
    }

-- ---- a machine that steps as the host does on valid states keeps the secret too

module _ (f : State → List ℕ → Outcome) (same : (s : State) (r : List ℕ) → Valid s → f s r ≡ step s r) where
  open_like : (g : ℕ) {s : State} → Valid s → (rs : List (List ℕ)) → AllBytes rs → open_by f g s rs ≡ open_records g s rs
  unfolding open_by
  open_like g v [] b = refl
  open_like g {s} v (r ∷ rs) b =
      ap (λ (o : Outcome). with_rest (open_by f g o.state rs)) (same s r v) ∙ ap with_rest (open_like g {s = (step s r).state} (step_keeps v r (b 0)) rs (λ i. b (suc i)))
    where
      with_rest : List (List ℕ) → List (List ℕ)
      with_rest l = pick (hidden g s r) l (told g s r ∷ l)

  seen_like : (g : ℕ) {s : State} → Valid s → (rs : List (List ℕ)) → AllBytes rs → seen_by f g s rs ≡ seen g s rs
  unfolding seen_by
  seen_like g v [] b = refl
  seen_like g {s} v (r ∷ rs) b =
      ap (λ (o : Outcome). with_rest o (seen_by f g o.state rs)) (same s r v) ∙ ap (with_rest (step s r)) (seen_like g {s = (step s r).state} (step_keeps v r (b 0)) rs (λ i. b (suc i)))
    where
      with_rest : Outcome → List Sight → List Sight
      with_rest o l = pick (hidden g s r) l (sight g s o ∷ l)

  run_like : {s : State} → Valid s → (rs : List (List ℕ)) → AllBytes rs → (run_by f s rs).state ≡ (run s rs).state
  unfolding run_by
  run_like v [] b = refl
  run_like {s} v (r ∷ rs) b =
      ap (λ (o : Outcome). (run_by f o.state rs).state) (same s r v) ∙ run_like {s = (step s r).state} (step_keeps v r (b 0)) rs (λ i. b (suc i))

  pub secret_like : Secret f
  secret_like g s v rs qs b c h =
      let z = secret g s v rs qs b c (sym (open_like g v rs b) ∙ h ∙ open_like g v qs c) in
      record {
        seen = seen_like g v rs b ∙ z.seen ∙ sym (seen_like g v qs c);
        left = ap (hide g) (run_like v rs b) ∙ z.left ∙ sym (ap (hide g) (run_like v qs c));
      }

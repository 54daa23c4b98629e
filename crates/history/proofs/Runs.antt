-- A run as its past tells it: what holds after one record, accepted or refused, holds after every list of records.
-- Assumes nothing.
use mathlib.Core.Path.{◌≡◌, refl, sym, ap, ap₂, ◌∙◌, subst}
use mathlib.Core.List.{List, [], ◌∷◌}
use mathlib.Core.Option.{none, some}
use Prim.Native.Nat.{ℕ, ◌+◌, ◌<◌}
use borrow.Author.Tests.{ne_eqb}
use Rattle.laws.proofs.Cases.{same?, pick_not}
use Rattle.laws.proofs.Search.{Each}
use Rattle.model.specs.Sizes.{guests}
use Rattle.model.specs.State.{State}
use Rattle.model.specs.Records.{Bytes, decode}
use Rattle.model.specs.Valid.{Valid}
use Rattle.model.specs.Step.{Outcome, number_of, value_of, step}
use Rattle.model.specs.Run.{run_by, run}
use Rattle.model.proofs.Records.{decode_encode}
use Rattle.keeps.specs.Allowed.{Accepts}
use Rattle.keeps.proofs.Accepted.{accepted, refused_same}
use Rattle.keeps.proofs.Answers.{done_as, accepted_outcome}
use Rattle.keeps.proofs.Keeps.{next_valid}
use Rattle.history.specs.Past.{Past, Book, active_in, current_in, kind_in, link_in, value_in, pins_in, unpins_in, book_after, accepted_of, recall, answer_to, past_after, values_after}
use Rattle.history.specs.Agrees.{Agrees}
use Rattle.history.specs.Rations.{numbers, values, owned}
use Rattle.history.proofs.Step.{next_agrees, value_agrees}
use Rattle.history.proofs.Counts.{next_counted}

-- a state after a past: n g is what guest g owned before it
pub record Tells (n : ℕ → ℕ) (b : Book) (past : Past) (s : State) : Type 0 where
  pub valid : Valid s
  pub agrees : Agrees s (book_after b past)
  pub counted : (g : ℕ) → g < guests → owned s.shape g + unpins_in b past g ≡ n g + pins_in b past g

-- what the outcome of the record r must be
pub record Told (n : ℕ → ℕ) (b : Book) (past : Past) (r : List ℕ) (o : Outcome) : Type 0 where
  pub state : Tells n b (recall (accepted_of r (number_of o.answer)) past) o.state
  pub value : value_of o.answer ≡ answer_to b past (accepted_of r (number_of o.answer))

-- ---- one record

module _ {n : ℕ → ℕ} {b : Book} {past : Past} {s : State} (t : Tells n b past s) (r : List ℕ) where
  accepted_tells : Accepts s r → Told n b past r (step s r)
  unfolding active_in current_in kind_in link_in value_in
  accepted_tells a =
      let x = a.action in
      let d : decode r ≡ some x = ap decode (sym a.encoded) ∙ decode_encode x a.in_range in
      let done : Told n b past r (done_as s x) =
      record {
        state = rw d
            (record {
              valid = next_valid t.valid x a.in_range a.allowed;
              agrees = next_agrees t.valid t.agrees x a.in_range a.allowed;
              counted = λ g hg. next_counted t.valid b past t.agrees.chart.active (n g) g (t.counted g hg) x a.in_range a.allowed;
            });
        value = rw d (value_agrees t.valid t.agrees x a.in_range a.allowed);
      } in
      subst (λ (o : Outcome). Told n b past r o) (sym (accepted_outcome s r a)) done

  pub step_tells : Bytes r → Told n b past r (step s r)
  step_tells w =
      same? (number_of (step s r).answer) 0 (λ e. accepted_tells (accepted s r w e))
      (λ d.
      let z = refused_same s r d in
      let e : accepted_of r (number_of (step s r).answer) ≡ none = pick_not (decode r) none (ne_eqb (number_of (step s r).answer) 0 d) in
      record { state = rw (e, z.0) t; value = rw e z.1 })

-- ---- a run

module _ {n : ℕ → ℕ} {b : Book} where
  pub run_tells : {past : Past} {s : State} → Tells n b past s → (rs : List (List ℕ)) → Each Bytes rs
      → Tells n b (past_after past rs (numbers s rs)) (run s rs).state
  unfolding run_by past_after
  run_tells t [] w = t
  run_tells {past} {s} t (r ∷ rs) w =
      run_tells {past = recall (accepted_of r (number_of (step s r).answer)) past} {s = (step s r).state} (step_tells t r w.0).state rs w.1

  pub run_values : {past : Past} {s : State} → Tells n b past s → (rs : List (List ℕ)) → Each Bytes rs
      → values s rs ≡ values_after b past rs (numbers s rs)
  unfolding run_by values_after
  run_values t [] w = refl
  run_values {past} {s} t (r ∷ rs) w =
      let o = step_tells t r w.0 in
      ap₂ ◌∷◌ o.value (run_values {past = recall (accepted_of r (number_of (step s r).answer)) past} {s = (step s r).state} o.state rs w.1)

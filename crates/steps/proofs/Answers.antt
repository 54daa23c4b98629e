-- At most one answer, and one content of each lent buffer, meets a promise; a refusal leaves every byte as it was.
-- Assumes nothing.
use mathlib.Core.Path.{◌≡◌, refl, sym, ◌∙◌}
use mathlib.Core.List.{List}
use Prim.Native.Nat.{ℕ}
use native.Mathlib.Omega.{arith}
use Rattle.model.specs.State.{State}
use Rattle.model.specs.Step.{Outcome, refused, step}
use Rattle.keeps.proofs.Accepted.{stepped, judged, acted}
use Rattle.host.specs.View.{view, Whole}
use Rattle.host.proofs.Inverse.{view_inj}
use Rattle.std.specs.Prelude.{Result, Err}
use Rattle.numbers.specs.declared.refusal.Refusal.{Refusal}
use Rattle.numbers.specs.Refusals.{refusal_number}
use Rattle.steps.specs.declared.Ran.{Ran}
use Rattle.steps.specs.Promises.{Steps}
use Rattle.steps.proofs.Refusals.{one_answer_from}
use Rattle.steps.specs.Parts.{Runs, RunsMost}

pub one_step : (s : State) (l : List ℕ) {a b : Result ℕ Refusal} {x y : List ℕ} → Whole x → Whole y → Steps s l a (view x) → Steps s l b (view y)
    → (a ≡ b) × (x ≡ y)
one_step s l {a} {b} {x = x} {y = y} h k p q = (one_answer_from a b (p.answer ∙ sym q.answer), view_inj x y h k (p.state ∙ sym q.state))

pub one_run : (s : State) (j : List ℕ) (start : ℕ) (b : List ℕ) {r q : Result Ran Refusal} {x y c d : List ℕ} → Whole x → Whole y
    → Runs s j start b r (view x) c → Runs s j start b q (view y) d
    → (r ≡ q) × (x ≡ y) × (c ≡ d)
one_run s j start b {x = x} {y = y} h k p q = (
  p.result ∙ sym q.result,
  view_inj x y h k (p.state ∙ sym q.state),
  p.buffer ∙ sym q.buffer,
)

pub one_most : (n : ℕ) (s : State) (first j : List ℕ) (start : ℕ) (b : List ℕ) {r q : Result Ran Refusal} {x y c d : List ℕ} → Whole x → Whole y
    → RunsMost n s first j start b r (view x) c → RunsMost n s first j start b q (view y) d
    → (r ≡ q) × (x ≡ y) × (c ≡ d)
one_most n s first j start b {x = x} {y = y} h k p q = (
  p.result ∙ sym q.result,
  view_inj x y h k (p.state ∙ sym q.state),
  p.buffer ∙ sym q.buffer,
)

-- ---- the refused

-- the model leaves a state that it refuses as it was, whatever the number
refused_state : (s : State) (l : List ℕ) (n : ℕ) → (step s l).answer ≡ refused n → (step s l).state ≡ s
refused_state s l n =
    stepped Same s l (λ v e. refl)
    (λ v. judged Same s l (λ d e. refl) (λ x d. acted Same s x (λ r e. let z : ◌≡◌ {A = ℕ} 0 1 = cc e in absurd (omega arith)) (λ r e. refl)))
  where
    Same : Outcome → Type 0
    Same o = o.answer ≡ refused n → o.state ≡ s

-- a step that answers a refusal leaves every byte of the host
pub refused_bytes : (l : List ℕ) (r : Refusal) {x y : List ℕ} → Whole x → Whole y → Steps (view x) l (Err r) (view y) → y ≡ x
refused_bytes l r {x} {y} h k p =
    view_inj y x k h (p.state ∙ refused_state (view x) l (refusal_number r) (sym p.answer))

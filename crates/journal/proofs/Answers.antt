-- At most one answer, and one content of each lent buffer, meets the promise; a refused journal leaves every byte as it was; the report of a
-- journal that is run, by the bytes at exit.
-- Assumes nothing.
use mathlib.Core.Path.{◌≡◌, refl, sym, ap, subst, ◌∙◌}
use mathlib.Core.List.{List}
use Prim.Native.Nat.{ℕ, ◌+◌}
use native.Mathlib.Omega.{arith}
use lib.Dec.{eqb}
use Rattle.laws.specs.Search.{count_below}
use Rattle.model.specs.State.{State}
use Rattle.model.specs.Journal.{number_at, turned_away, report_of, After, journal}
use Rattle.model.specs.Journal as model
use Rattle.model.proofs.Journal.{either, accepted_and_refused, accepted_zeros}
use Rattle.host.specs.View.{view, Whole}
use Rattle.host.proofs.Inverse.{view_inj}
use Rattle.journal.specs.declared.Report.{Report}
use Rattle.std.specs.Prelude.{Result, Ok, Err}
use Rattle.numbers.specs.declared.refusal.Refusal.{Refusal}
use Rattle.numbers.specs.Refusals.{refusal_number}
use Rattle.numbers.proofs.Answers.{one_refusal}
use Rattle.journal.specs.Promises.{report_from, verdict_from, Runs}

-- a verdict in code is told by the model's
pub one_verdict_from : (v w : Result Report Refusal) → verdict_from v ≡ verdict_from w → v ≡ w
one_verdict_from (Ok r) (Ok q) e =
    let f : report_from r ≡ report_from q = cc e in
    λ i. Ok (record { taken = (f i).taken; accepted = (f i).accepted; refused = (f i).refused; left_over = (f i).left_over })
one_verdict_from (Ok r) (Err m) e = let z : ◌≡◌ {A = ℕ} 0 1 = cc e in absurd (omega arith)
one_verdict_from (Err n) (Ok q) e = let z : ◌≡◌ {A = ℕ} 0 1 = cc e in absurd (omega arith)
one_verdict_from (Err n) (Err m) e = ap (λ (x : Refusal). Err x) (one_refusal n m (cc e))

pub one_run : (s : State) (j b : List ℕ) {v w : Result Report Refusal} {x y c d : List ℕ} → Whole x → Whole y → Runs s j b v (view x) c
    → Runs s j b w (view y) d
    → (v ≡ w) × (x ≡ y) × (c ≡ d)
one_run s j b {v} {w} {x = x} {y = y} h k p q = (
  one_verdict_from v w (p.verdict ∙ sym q.verdict),
  view_inj x y h k (p.state ∙ sym q.state),
  p.buffer ∙ sym q.buffer,
)

-- ---- the refused

-- the model's journal that is turned away leaves state and buffer
pub turned_same : (s : State) (j b : List ℕ) (n : ℕ) → turned_away n ≡ (journal s j b).verdict → ((journal s j b).state ≡ s) × ((journal s j b).buffer ≡ b)
turned_same s j b n =
    either (λ (a : After). turned_away n ≡ a.verdict → (a.state ≡ s) × (a.buffer ≡ b)) s j b
    (λ q e. let z : ◌≡◌ {A = ℕ} 0 1 = cc e in absurd (omega arith))
    (λ q e. (refl, refl))

pub refused_bytes : (j b : List ℕ) (r : Refusal) {x y c : List ℕ} → Whole x → Whole y → Runs (view x) j b (Err r) (view y) c → (y ≡ x) × (c ≡ b)
refused_bytes j b r {x} {y} h k p =
    let e = turned_same (view x) j b (refusal_number r) p.verdict in
    (view_inj y x k h (p.state ∙ e.0), p.buffer ∙ e.1)

-- ---- the report

-- a refused journal's is all zero
abbrev pub report_in : Result Report Refusal → Report
report_in (Ok r) = r
report_in (Err n) = record { taken = 0; accepted = 0; refused = 0; left_over = 0 }

pub report_of_law : (v : Result Report Refusal) → report_from (report_in v) ≡ report_of (verdict_from v)
report_of_law (Ok r) = refl
report_of_law (Err n) = refl

module _ (s : State) (j b : List ℕ) {r : Report} {t : State} {c : List ℕ} (p : Runs s j b (Ok r) t c) where
  reported : report_from r ≡ report_of (journal s j b).verdict
  reported = ap report_of p.verdict

  -- accepted and refused make taken
  pub counts_add_up : r.accepted + r.refused ≡ r.taken
  counts_add_up = subst (λ (x : model.Report). x.accepted + x.refused ≡ x.taken) (sym reported) (accepted_and_refused s j b)

  -- accepted is how many of the numbers taken are 0
  pub accepted_are_zeros : r.accepted ≡ count_below r.taken (λ n. eqb (number_at c n) 0)
  accepted_are_zeros =
      subst (λ (x : model.Report). x.accepted ≡ count_below x.taken (λ n. eqb (number_at c n) 0)) (sym reported)
      (accepted_zeros s j b ∙ ap (λ (l : List ℕ). count_below (report_of (journal s j b).verdict).taken (λ n. eqb (number_at l n) 0)) (sym p.buffer))

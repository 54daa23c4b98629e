-- At most one answer, and one content of host, kept bytes and answer buffer, meets the promise; a refused call leaves every byte but 13's mark.
-- Assumes nothing.
use mathlib.Core.Path.{◌≡◌, sym, ap, ◌∙◌}
use mathlib.Core.Bool.{Bool}
use mathlib.Core.List.{List}
use Prim.Native.Nat.{ℕ}
use lib.Dec.{eqb}
use Rattle.std.proofs.Common.{Result, Ok, Err}
use Rattle.laws.specs.Choice.{pick}
use Rattle.model.specs.State.{State}
use Rattle.model.specs.Pieces.{stop, AfterCall, sent_back, feed}
use Rattle.model.specs.Pieces as model
use Rattle.model.proofs.Pieces.{either}
use Rattle.host.specs.View.{view, Whole}
use Rattle.host.proofs.Inverse.{view_inj}
use Rattle.numbers.specs.declared.refusal.Refusal.{Refusal}
use Rattle.numbers.specs.Refusals.{refusal_number}
use Rattle.numbers.proofs.Answers.{one_refusal}
use Rattle.steps.proofs.Refusals.{some_number}
use Rattle.pieces.specs.declared.Fed.{Fed}
use Rattle.pieces.specs.Promises.{fed_from, FeedsCode}

-- nothing of an answer is lost
one_fed : (q r : Result Fed Refusal) → fed_from q ≡ fed_from r → q ≡ r
one_fed (Ok x) (Ok y) e = λ i. Ok (record { records = (e i).records; bytes = (e i).bytes })
one_fed (Ok x) (Err y) e = absurd (some_number y (sym (ap (λ (f : model.Fed). f.number) e)))
one_fed (Err x) (Ok y) e = absurd (some_number x (ap (λ (f : model.Fed). f.number) e))
one_fed (Err x) (Err y) e = ap Err (one_refusal x y (ap (λ (f : model.Fed). f.number) e))

pub one_feed : (s : State) (k piece : List ℕ) (allowance : ℕ) (last : Bool) (b : List ℕ) {q r : Result Fed Refusal} {x y l m c d : List ℕ} → Whole x
    → Whole y → FeedsCode s k piece allowance last b q (view x) l c → FeedsCode s k piece allowance last b r (view y) m d
    → (q ≡ r) × (x ≡ y) × (l ≡ m) × (c ≡ d)
one_feed s k piece allowance last b {q} {r} {x} {y} h i p w = (
  one_fed q r (p.answer ∙ sym w.answer),
  view_inj x y h i (p.state ∙ sym w.state),
  p.kept ∙ sym w.kept,
  p.buffer ∙ sym w.buffer,
)

-- ---- the refused

-- a call that is refused leaves host and buffer, and what is kept but for the mark of 13
pub refused_bytes : (k piece : List ℕ) (allowance : ℕ) (last : Bool) (b : List ℕ) (e : Refusal) {x y l c : List ℕ} → Whole x → Whole y
    → FeedsCode (view x) k piece allowance last b (Err e) (view y) l c
    → (y ≡ x) × (l ≡ pick (eqb (refusal_number e) 13) (stop k) k) × (c ≡ b)
refused_bytes k piece allowance last b e {x} {y} h i p =
    let a : feed (view x) k piece allowance last b ≡ sent_back (view x) k b (refusal_number e) =
    either (view x) k piece allowance last b
    (λ (o : AfterCall). refusal_number e ≡ o.fed.number → o ≡ sent_back (view x) k b (refusal_number e))
    (λ q n. absurd (some_number e n))
    (λ q n. ap (sent_back (view x) k b) (sym n))
    (ap (λ (f : model.Fed). f.number) p.answer) in (
      view_inj y x i h (p.state ∙ ap (λ (o : AfterCall). o.state) a),
      p.kept ∙ ap (λ (o : AfterCall). o.kept) a,
      p.buffer ∙ ap (λ (o : AfterCall). o.buffer) a,
    )

-- At most one number, and one content of each lent buffer, meets a promise.
-- Assumes nothing.
use mathlib.Core.Path.{◌≡◌, sym, ◌∙◌}
use mathlib.Core.Bool.{Bool}
use mathlib.Core.List.{List}
use Prim.Native.Nat.{ℕ}
use Rattle.model.specs.State.{State}
use Rattle.host.specs.View.{view, Whole}
use Rattle.host.proofs.Inverse.{view_inj}
use Rattle.ration.specs.Promises.{StartsBytes, StepsBytes, RunsBytes, SavesBytes, LoadsBytes, OpensBytes, ChecksBytes, FeedsBytes}

pub one_start : (s : State) (p : ℕ) {n m : ℕ} {x y : List ℕ} → Whole x → Whole y → StartsBytes s p n (view x) → StartsBytes s p m (view y)
    → (n ≡ m) × (x ≡ y)
one_start s p {x = x} {y = y} h k a b = (a.number ∙ sym b.number, view_inj x y h k (a.state ∙ sym b.state))

pub one_step : (s : State) (l : List ℕ) {x y c d : List ℕ} → Whole x → Whole y → StepsBytes s l (view x) c → StepsBytes s l (view y) d
    → (x ≡ y) × (c ≡ d)
one_step s l {x = x} {y = y} h k p q = (view_inj x y h k (p.state ∙ sym q.state), p.answer ∙ sym q.answer)

pub one_run : (s : State) (j b : List ℕ) {x y c d e f : List ℕ} → Whole x → Whole y → RunsBytes s j b (view x) c e
    → RunsBytes s j b (view y) d f
    → (x ≡ y) × (c ≡ d) × (e ≡ f)
one_run s j b {x = x} {y = y} h k p q = (
  view_inj x y h k (p.state ∙ sym q.state),
  p.answers ∙ sym q.answers,
  p.report ∙ sym q.report,
)

pub one_save : (s : State) (b : List ℕ) {n m : ℕ} {c d : List ℕ} → SavesBytes s b n c → SavesBytes s b m d → (n ≡ m) × (c ≡ d)
one_save s b p q = (p.number ∙ sym q.number, p.buffer ∙ sym q.buffer)

pub one_load : (s : State) (i : List ℕ) {n m : ℕ} {x y : List ℕ} → Whole x → Whole y → LoadsBytes s i n (view x) → LoadsBytes s i m (view y)
    → (n ≡ m) × (x ≡ y)
one_load s i {x = x} {y = y} h k p q = (p.number ∙ sym q.number, view_inj x y h k (p.state ∙ sym q.state))

pub one_open : (s : State) (i : List ℕ) {n m : ℕ} {x y : List ℕ} → Whole x → Whole y → OpensBytes s i n (view x) → OpensBytes s i m (view y)
    → (n ≡ m) × (x ≡ y)
one_open s i {x = x} {y = y} h k p q = (p.number ∙ sym q.number, view_inj x y h k (p.state ∙ sym q.state))

pub one_check : (s : State) (r : ℕ) {n m k l i j : ℕ} → ChecksBytes s r n k i → ChecksBytes s r m l j → (n ≡ m) × (k ≡ l) × (i ≡ j)
one_check s r p q = (p.number ∙ sym q.number, p.part ∙ sym q.part, p.place ∙ sym q.place)

pub one_feed : (s : State) (k piece : List ℕ) (allowance : ℕ) (last : Bool) (b : List ℕ) {n m : ℕ} {x y l o c d : List ℕ}
    {ran again took retook : ℕ} → Whole x → Whole y → FeedsBytes s k piece allowance last b n (view x) l c ran took
    → FeedsBytes s k piece allowance last b m (view y) o d again retook
    → (n ≡ m) × (x ≡ y) × (l ≡ o) × (c ≡ d) × (ran ≡ again) × (took ≡ retook)
one_feed s k piece allowance last b {x = x} {y = y} h i p q = (
  p.number ∙ sym q.number,
  view_inj x y h i (p.state ∙ sym q.state),
  p.kept ∙ sym q.kept,
  p.answers ∙ sym q.answers,
  p.records ∙ sym q.records,
  p.bytes ∙ sym q.bytes,
)

-- Any bytes on any state: accepted exactly when; exactly one number, the first check that applies; a refusal changes nothing.
-- Assumes nothing.
use mathlib.Core.Path.{◌≡◌, refl, sym, ap, ◌∙◌}
use mathlib.Core.Bool.{Bool, true, false, true≢false}
use mathlib.Core.Logic.{◌≢◌, ◌↔◌}
use mathlib.Core.List.{List}
use mathlib.Core.Option.{Option, none, some}
use Prim.Native.Nat.{ℕ, ◌<◌}
use native.Mathlib.Omega.{arith}
use lib.Dec.{eqb}
use borrow.Author.Tests.{eqb-true, eqb-false}
use Rattle.laws.proofs.Tests.{not_so}
use Rattle.model.specs.State.{State}
use Rattle.model.specs.Records.{Action, silent, read, read_hyper, write, write_hyper, new, new_sm, del, switch, lswitch, hcall, ret_ctrl, chmod, pin, unpin, drop, InRange, Bytes, decode}
use Rattle.model.specs.Valid.{Valid, valid?}
use Rattle.model.specs.Checks.{Asked, asked, first}
use Rattle.model.specs.Step.{own_checks, checks, refusal, next, value, done, number_of, value_of, Outcome, refuse, act, judge, step}
use Rattle.model.proofs.Valid.{valid⇔}
use Rattle.model.proofs.Records.{decode_encode, encode_decode}
use Rattle.keeps.specs.Allowed.{Allowed, Accepts}
use Rattle.keeps.specs.Numbers.{record_checks, all_checks, Applies}
use Rattle.keeps.proofs.Checks.{Rising, passed, none_given, given, gives}
use Rattle.keeps.proofs.Allowed.{allowed_if, if_allowed}

-- ---- the checks of every action are in order of number

rising : (q : Asked) (x : Action) → Rising 2 (checks q x)
unfolding own_checks
rising q silent = omega arith
rising q (read va) = omega arith
rising q (read_hyper va) = omega arith
rising q (write va v) = omega arith
rising q (write_hyper va v) = omega arith
rising q (new va pa) = omega arith
rising q (new_sm pa) = omega arith
rising q (del va) = omega arith
rising q (switch g) = omega arith
rising q (lswitch pa) = omega arith
rising q (hcall c a b) = omega arith
rising q ret_ctrl = omega arith
rising q chmod = omega arith
rising q (pin pa k) = omega arith
rising q (unpin pa) = omega arith
rising q (drop g) = omega arith

pub all_rising : (s : State) (l : List ℕ) → Rising 0 (all_checks s l)
all_rising s l = (omega arith, go (decode l))
  where
    go : (o : Option Action) → Rising 1 (record_checks s o)
    go none = (omega arith, tt)
    go (some x) = (omega arith, rising (asked s.shape) x)

-- ---- one action on a valid state

pub refused_not : {s : State} → Valid s → (x : Action) → InRange x → (refusal s.shape x ≡ 0) ↔ Allowed s.shape x
unfolding refusal
refused_not {s} v x r = (
  (λ e. allowed_if v x r (passed 2 (checks (asked s.shape) x) (rising (asked s.shape) x) e)),
  λ a. none_given (checks (asked s.shape) x) (if_allowed v x r a),
)

-- ---- an outcome, taken apart

-- an action is done, with its value and its next state, or refused, with all as it was
pub acted {ℓ} : (P : Outcome → Type ℓ) (s : State) (x : Action) → (refusal s.shape x ≡ 0 → P (record { answer = done (value s x); state = next s x }))
    → (refusal s.shape x ≢ 0 → P (refuse s (refusal s.shape x))) → P (act s x)
unfolding act
acted P s x f g = go (eqb (refusal s.shape x) 0) refl
  where
    go : (t : Bool) → eqb (refusal s.shape x) 0 ≡ t
        → P (elim t [ true ↦ record { answer = done (value s x); state = next s x } | false ↦ refuse s (refusal s.shape x) ])
    go true e = f (eqb-true (refusal s.shape x) 0 e)
    go false e = g (eqb-false (refusal s.shape x) 0 e)

-- bytes are no record, and refused with 2, or an action's
pub judged {ℓ} : (P : Outcome → Type ℓ) (s : State) (l : List ℕ) → (decode l ≡ none → P (refuse s 2)) → ((x : Action) → decode l ≡ some x → P (act s x))
    → P (judge s l)
unfolding judge
judged P s l f g = go (decode l) refl
  where
    go : (o : Option Action) → decode l ≡ o → P (elim o [ none ↦ refuse s 2 | some x ↦ act s x ])
    go none e = f e
    go (some x) e = g x e

-- a state is not valid, and all is refused with 1, or the bytes are judged
pub stepped {ℓ} : (P : Outcome → Type ℓ) (s : State) (l : List ℕ) → ((Valid s → ⊥) → P (refuse s 1)) → (Valid s → P (judge s l)) → P (step s l)
unfolding step
stepped P s l f g = go (valid? s) refl
  where
    go : (t : Bool) → valid? s ≡ t → P (elim t [ true ↦ judge s l | false ↦ refuse s 1 ])
    go true e = g ((valid⇔ s).0 e)
    go false e = f (λ v. true≢false (sym ((valid⇔ s).1 v) ∙ e))

-- on a valid state the answer with check 1 is the answer without it
pub step_judge : (s : State) (l : List ℕ) → Valid s → step s l ≡ judge s l
step_judge s l v = stepped (λ o. o ≡ judge s l) s l (λ n. absurd (n v)) (λ w. refl)

-- ---- the number that is given

act_number : (s : State) (x : Action) → number_of (act s x).answer ≡ refusal s.shape x
act_number s x = acted (λ o. number_of o.answer ≡ refusal s.shape x) s x sym (λ n. refl)

judge_number : (s : State) (l : List ℕ) → number_of (judge s l).answer ≡ first (record_checks s (decode l))
unfolding refusal
judge_number s l =
    judged (λ o. number_of o.answer ≡ first (record_checks s (decode l))) s l (λ e. rw e) (λ x e. rw e (act_number s x))

pub step_number : (s : State) (l : List ℕ) → number_of (step s l).answer ≡ first (all_checks s l)
step_number s l =
    stepped (λ o. number_of o.answer ≡ first (all_checks s l)) s l (λ n. rw (not_so (valid⇔ s) n)) (λ v. rw ((valid⇔ s).1 v) (judge_number s l))

-- The number n, not 0, is given exactly if check n applies and no earlier one does: so exactly one number is given.
pub number_given : (s : State) (l : List ℕ) (n : ℕ) → n ≢ 0
    → (number_of (step s l).answer ≡ n) ↔ (Applies n (all_checks s l) × ((j : ℕ) → j < n → Applies j (all_checks s l) → ⊥))
number_given s l n z = (
  (λ e. given 0 n (all_checks s l) (all_rising s l) z (sym (step_number s l) ∙ e)),
  λ w. step_number s l ∙ gives 0 n (all_checks s l) (all_rising s l) w.0 w.1,
)

-- ---- accepted exactly when

pub accepted : (s : State) (l : List ℕ) → Bytes l → number_of (step s l).answer ≡ 0 → Accepts s l
accepted s l b =
    stepped (λ o. number_of o.answer ≡ 0 → Accepts s l) s l (λ n e. absurd (omega arith))
    (λ v. judged (λ o. number_of o.answer ≡ 0 → Accepts s l) s l (λ z e. absurd (omega arith))
    (λ x d e.
    let r = encode_decode l x b d in
    record {
      valid = v;
      action = x;
      in_range = r.0;
      encoded = r.1;
      allowed = (refused_not v x r.0).0 (sym (act_number s x) ∙ e);
    }))

pub accepts : (s : State) (l : List ℕ) → Accepts s l → number_of (step s l).answer ≡ 0
unfolding refusal
accepts s l a =
    let d : decode l ≡ some a.action = ap decode (sym a.encoded) ∙ decode_encode a.action a.in_range in
    ap (λ (o : Outcome). number_of o.answer) (step_judge s l a.valid)
    ∙ judge_number s l
    ∙ ap (λ (o : Option Action). first (record_checks s o)) d
    ∙ (refused_not a.valid a.action a.in_range).1 a.allowed

-- ---- the refused

-- a number other than 0 leaves the state as it was, and the value is 0
pub refused_same : (s : State) (l : List ℕ) → number_of (step s l).answer ≢ 0 → ((step s l).state ≡ s) × (value_of (step s l).answer ≡ 0)
refused_same s l = stepped Same s l (λ n z. (refl, refl)) (λ v. judged Same s l (λ e z. (refl, refl)) (λ x e. acted Same s x (λ q z. absurd (z refl)) (λ q z. (refl, refl))))
  where
    Same : Outcome → Type 0
    Same o = number_of o.answer ≢ 0 → (o.state ≡ s) × (value_of o.answer ≡ 0)

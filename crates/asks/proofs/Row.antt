-- Checks 3 and 4 of an action, by its row, and then its own.
-- Assumes nothing.
use mathlib.Core.Path.{◌≡◌, refl, ap, ◌∙◌}
use mathlib.Core.Bool.{Bool, true, false}
use mathlib.Core.List.{[]}
use Prim.Native.Nat.{ℕ}
use native.Mathlib.Omega.{arith}
use Rattle.std.specs.Prelude.{Result, Ok, Err}
use Rattle.laws.specs.Choice.{pick}
use Rattle.model.specs.State.{Shape}
use Rattle.model.specs.Records.{row_of, fields_of}
use Rattle.model.specs.Checks.{Asked, asked, first, wrong_mode, wrong_call, row_checks}
use Rattle.model.specs.Step.{own_checks, refusal}
use Rattle.numbers.specs.declared.refusal.Refusal.{Refusal}
use Rattle.numbers.specs.Refusals.{refusal_number, code_of}
use Rattle.numbers.proofs.Answers.{one_code}
use Rattle.records.specs.declared.Row.{Row}
use Rattle.records.specs.declared.Action.{Action}
use Rattle.records.specs.declared.Action.TheVariants as actions
use Rattle.records.specs.Table.{mode_of, need_of, row_to}
use Rattle.asks.specs.Actions.{action_from, kind_of}
use Rattle.asks.specs.Refusals.{wrong_mode_by, wrong_call_by}

-- check 4 of an action, in the model's numbers
abbrev wrong : Asked → Action → Bool
wrong q x =
    let f = fields_of (action_from x) in
    wrong_call q (row_of f.kind).need f.a f.b

module _ (q : Asked) where
  by_mode : (x : Action) → wrong_mode_by q (mode_of (row_of (kind_of x)).mode) ≡ wrong_mode q (row_of (kind_of x))
  by_mode actions.Silent = refl
  by_mode (actions.Read a) = refl
  by_mode (actions.ReadHyper a) = refl
  by_mode (actions.Write a v) = refl
  by_mode (actions.WriteHyper a v) = refl
  by_mode (actions.New a p) = refl
  by_mode (actions.NewSm p) = refl
  by_mode (actions.Del a) = refl
  by_mode (actions.Switch g) = refl
  by_mode (actions.Lswitch p) = refl
  by_mode (actions.Hcall c) = refl
  by_mode actions.RetCtrl = refl
  by_mode actions.Chmod = refl
  by_mode (actions.Pin p k) = refl
  by_mode (actions.Unpin p) = refl
  by_mode (actions.Drop g) = refl

  by_need : (x : Action) → wrong_call_by q (need_of (row_of (kind_of x)).need) x ≡ wrong q x
  by_need actions.Silent = refl
  by_need (actions.Read a) = refl
  by_need (actions.ReadHyper a) = refl
  by_need (actions.Write a v) = refl
  by_need (actions.WriteHyper a v) = refl
  by_need (actions.New a p) = refl
  by_need (actions.NewSm p) = refl
  by_need (actions.Del a) = refl
  by_need (actions.Switch g) = refl
  by_need (actions.Lswitch p) = refl
  by_need (actions.Hcall c) = refl
  by_need actions.RetCtrl = refl
  by_need actions.Chmod = refl
  by_need (actions.Pin p k) = refl
  by_need (actions.Unpin p) = refl
  by_need (actions.Drop g) = refl

  module _ (x : Action) {k : ℕ} (d : k ≡ kind_of x) {w : Row} (e : w ≡ row_to (row_of k)) where
    row_is : w ≡ row_to (row_of (kind_of x))
    row_is = e ∙ ap (λ (n : ℕ). row_to (row_of n)) d

    pub mode_law : {m : Bool} → m ≡ wrong_mode_by q w.mode → m ≡ wrong_mode q (row_of (kind_of x))
    mode_law f = f ∙ ap (λ (r : Row). wrong_mode_by q r.mode) row_is ∙ by_mode x

    pub call_law : {y : Bool} → y ≡ wrong_call_by q w.need x → y ≡ wrong q x
    call_law f = f ∙ ap (λ (r : Row). wrong_call_by q r.need x) row_is ∙ by_need x

-- ---- then the action's own

stops : (x y : Bool) (t r : ℕ) → (r ≡ 0 → ⊥) → r ≡ pick x 3 (pick y 4 0) → r ≡ pick x 3 (pick y 4 t)
stops true y t r n e = e
stops false true t r n e = e
stops false false t r n e = absurd (n e)

goes_on : (x y : Bool) (t : ℕ) → ◌≡◌ {A = ℕ} 0 (pick x 3 (pick y 4 0)) → t ≡ pick x 3 (pick y 4 t)
goes_on true y t e = absurd (omega arith)
goes_on false true t e = absurd (omega arith)
goes_on false false t e = refl

module _ (h : Shape) (x : Action) where
  abbrev own : ℕ
  own = first (own_checks (asked h) (action_from x))

  abbrev mode? : Bool
  mode? = wrong_mode (asked h) (row_of (kind_of x))

  module _ {r : Result Unit Refusal} (e : code_of r ≡ first (row_checks (asked h) (action_from x) [])) where
    pub refused_row : (u : Refusal) → r ≡ Err u → refusal_number u ≡ refusal h (action_from x)
    unfolding refusal
    refused_row u i = stops mode? (wrong (asked h) x) own (refusal_number u) (λ z. let q : Err u ≡ Ok tt = one_code 0 (Err u) (Ok tt) z refl in cc) (rw i at e)

    pub refused_own : (u : Unit) → r ≡ Ok u → own ≡ refusal h (action_from x)
    unfolding refusal
    refused_own u i = goes_on mode? (wrong (asked h) x) own (rw i at e)

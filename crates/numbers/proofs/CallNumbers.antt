-- Numbers as a call, and the call's numbers: the same.
-- Assumes nothing.
use mathlib.Core.Path.{◌≡◌, refl, sym, ap, ◌∙◌}
use mathlib.Core.Bool.{Bool, true, false}
use Prim.Native.Nat.{ℕ, zero, suc, ◌<◌}
use native.Mathlib.Omega.{arith}
use lib.ListN.{get_or-eq_default}
use Rattle.laws.proofs.Cases.{split, below?, pick_yes, pick_not}
use Rattle.laws.proofs.Tests.{and⇔, eq⇔}
use Rattle.model.specs.Sizes.{calls, pin_kinds}
use Rattle.numbers.specs.declared.calls.PinKind.{PinKind}
use Rattle.numbers.specs.declared.calls.PinKind.TheVariants.{Data, Table}
use Rattle.numbers.specs.declared.calls.Call.{Call}
use Rattle.numbers.specs.declared.calls.Call.TheVariants.{None, Other}
use Rattle.numbers.specs.declared.calls.CallBytes.{CallBytes}
use Rattle.numbers.specs.Calls.{pin_kind_of, pin_number, call_bytes, bytes_of, same_bytes, call_named, call_of}
use Rattle.laws.proofs.Others.{Others, none_left}

-- ---- a pin's kind

pub kind_table_law : (k : ℕ) → (k ≡ 0 → ⊥) → Table ≡ pin_kind_of k
kind_table_law zero n = absurd (n refl)
kind_table_law (suc k) n = refl

pub number_kind : (k : ℕ) → k < pin_kinds → pin_number (pin_kind_of k) ≡ k
number_kind zero h = refl
number_kind (suc k) h = omega arith

pub number_below : (k : PinKind) → pin_number k < pin_kinds
number_below Data = omega arith
number_below Table = omega arith

-- ---- a call

pub none_else : (c a b : ℕ) → Others c 5 → None ≡ call_named c a b
none_else c a b r =
    below? c calls (λ h. ap (λ (n : ℕ). call_named n a b) (sym (none_left c 5 r (omega arith))))
    (λ h. rw (get_or-eq_default _ _ h))

module _ (c a b : ℕ) where
  abbrev exact : Bool
  exact = same_bytes (bytes_of (call_named c a b)) (call_bytes c a b)

  pub is_named : exact ≡ true → call_of c a b ≡ call_named c a b
  unfolding call_of
  is_named e = pick_yes (call_named c a b) (Other c a b) e

  pub is_other : exact ≡ false → call_of c a b ≡ Other c a b
  unfolding call_of
  is_other e = pick_not (call_named c a b) (Other c a b) e

  -- as the code finds out
  module _ {x : Call} {y : CallBytes} {r : Bool} (e : x ≡ call_named c a b) (f : y ≡ bytes_of x) (g : r ≡ same_bytes y (call_bytes c a b)) where
    asked : r ≡ exact
    asked = g ∙ ap (λ (z : CallBytes). same_bytes z (call_bytes c a b)) (f ∙ ap bytes_of e)

    pub reads_named : r ≡ true → x ≡ call_of c a b
    reads_named t = e ∙ sym (is_named (sym asked ∙ t))

    pub reads_other : r ≡ false → Other c a b ≡ call_of c a b
    reads_other t = sym (is_other (sym asked ∙ t))

-- two calls' numbers that are the same
same_bytes_law : (x y : CallBytes) → same_bytes x y ≡ true → x ≡ y
same_bytes_law x y e =
    let w = (and⇔ (and⇔ (eq⇔ x.number y.number) (eq⇔ x.a y.a)) (eq⇔ x.b y.b)).0 e in
    λ i. record { number = w.0.0 i; a = w.0.1 i; b = w.1 i }

-- no number is lost
pub bytes_call : (c a b : ℕ) → bytes_of (call_of c a b) ≡ call_bytes c a b
bytes_call c a b =
    split (exact c a b)
    (λ e. ap bytes_of (is_named c a b e) ∙ same_bytes_law (bytes_of (call_named c a b)) (call_bytes c a b) e)
    (λ e. ap bytes_of (is_other c a b e))

-- A call stored or cleared keeps the rules about calls.
-- Assumes nothing.
use mathlib.Core.Path.{◌≡◌}
use Prim.Native.Nat.{ℕ, zero, suc, ◌<◌}
use native.Mathlib.Omega.{arith}
use lib.ListN.{set}
use Rattle.laws.specs.Choice.{at}
use Rattle.laws.proofs.Cases.{same?}
use Rattle.laws.proofs.Lists.{at_same, at_other, at_any}
use Rattle.model.specs.Sizes.{guests, calls, call_a_bound, call_b_bound}
use Rattle.model.specs.Names.{running}
use Rattle.model.specs.State.{State, active, table}
use Rattle.model.specs.Records.{CallInRange}
use Rattle.model.specs.Rules.{Stored, Fits, Rule1}
use Rattle.model.specs.Parts.{shaped, set_call, clear_call}
use Rattle.model.specs.Valid.{Valid}
use Rattle.model.proofs.Records.{call_in}
use Rattle.keeps.proofs.Core.{Core, core_of, valid_of}
use Rattle.keeps.proofs.Parts.{guests_core}
use Rattle.keeps.proofs.Stores.{size_set, below_set}

-- arguments that fit are below every argument's bound
fits_below : (x a b : ℕ) → x < calls → Fits x a b → (a < call_a_bound) × (b < call_b_bound)
fits_below x a b h f = go x (call_in x a b h f)
  where
    go : (y : ℕ) → CallInRange y a b → (a < call_a_bound) × (b < call_b_bound)
    go zero w = (omega (arith, w.0), omega (arith, w.1))
    go (suc zero) w = w
    go (suc (suc zero)) w = (w.0, omega (arith, w.1))
    go (suc (suc (suc zero))) w = (omega (arith, w.0), omega (arith, w.1))
    go (suc (suc (suc (suc zero)))) w = (omega (arith, w.0), omega (arith, w.1))
    go (suc (suc (suc (suc (suc zero))))) w = (omega (arith, w.0), omega (arith, w.1))
    go (suc (suc (suc (suc (suc (suc y)))))) w = absurd w

-- ---- a guest's call is stored

module _ {s : State} (c : Core s) {g : ℕ} (hg : g < guests) {x a b : ℕ} (known : x < calls) (fit : Fits x a b)
    (idle : s.shape.guests.mode ≡ running → Stored x → ⊥) where
  fitting : (i : ℕ) → i < guests
      → Fits (at (set s.shape.guests.call g x) i) (at (set s.shape.guests.call_a g a) i) (at (set s.shape.guests.call_b g b) i)
  fitting i hi =
      let G = s.shape.guests in
      same? i g
      (λ e. rw (
        e,
        at_same G.call g x (omega (arith, c.sized.call)),
        at_same G.call_a g a (omega (arith, c.sized.call_a)),
        at_same G.call_b g b (omega (arith, c.sized.call_b)),
      ) fit)
      (λ n. rw (at_other G.call g x i n, at_other G.call_a g a i n, at_other G.call_b g b i n) (c.rule10.guests.arguments i hi))

  stored_rule1 : Rule1 (set s.shape.guests.call g x) (set s.shape.guests.call_a g a) (set s.shape.guests.call_b g b) (active s.shape)
      s.shape.guests.mode
  stored_rule1 =
      record {
        idle = λ h m. at_any (λ (y : ℕ). Stored y → ⊥) s.shape.guests.call g x (active s.shape) (idle m) (c.rule1.idle h m);
        fits = λ i hi t. fitting i hi;
      }

  pub set_call_core : Core (shaped s (set_call s.shape g x a b))
  set_call_core =
      let G = s.shape.guests in
      guests_core c
      (record {
        current = c.sized.current;
        call = size_set G.call g x c.sized.call;
        call_a = size_set G.call_a g a c.sized.call_a;
        call_b = size_set G.call_b g b c.sized.call_b;
        rule1 = stored_rule1;
        rule5 = c.rule5;
        ranges =
            record {
              current = c.rule10.guests.current;
              call = below_set G.call g x known c.rule10.guests.call;
              call_a = below_set G.call_a g a (fits_below x a b known fit).0 c.rule10.guests.call_a;
              call_b = below_set G.call_b g b (fits_below x a b known fit).1 c.rule10.guests.call_b;
              arguments = fitting;
              active = c.rule10.guests.active;
              mode = c.rule10.guests.mode;
            };
      })

-- ---- and cleared

none_fits : Fits 0 0 0
none_fits = record { a_low = omega arith; a_high = omega arith; b_low = omega arith; b_high = omega arith }

none_core : {s : State} → Core s → {g : ℕ} → g < guests → Core (shaped s (set_call s.shape g 0 0 0))
none_core c h = set_call_core c h (omega arith) none_fits (λ m t. let z = t.some in omega arith)

-- the active guest's
pub clear_core : {s : State} → Core s → Core (shaped s (clear_call s.shape))
clear_core c = none_core c c.rule10.guests.active

-- ---- on a valid state

pub set_call_valid : {s : State} → Valid s → {g : ℕ} → g < guests → {x a b : ℕ} → x < calls → Fits x a b
    → (s.shape.guests.mode ≡ running → Stored x → ⊥) → Valid (shaped s (set_call s.shape g x a b))
unfolding table
set_call_valid v g h f i = valid_of (set_call_core (core_of v) g h f i) v.rule8 v.rule9

pub none_valid : {s : State} → Valid s → {g : ℕ} → g < guests → Valid (shaped s (set_call s.shape g 0 0 0))
unfolding table
none_valid v h = valid_of (none_core (core_of v) h) v.rule8 v.rule9

pub clear_valid : {s : State} → Valid s → Valid (shaped s (clear_call s.shape))
clear_valid v = none_valid v v.rule10.guests.active

-- The fresh machine is valid: its test is computed, and the test is the rules. With another policy it has no line that breaks rule 11.
-- Assumes nothing.
use mathlib.Core.Path.{◌≡◌, refl}
use mathlib.Core.Bool.{true}
use Prim.Native.Nat.{ℕ, ◌<◌}
use native.Mathlib.Omega.{arith}
use lib.ListN.{get_or-replicate}
use Rattle.laws.specs.Search.{first_from, seek_from, list_from}
use Rattle.laws.specs.Bits.{bit}
use Rattle.model.specs.Sizes.{lines, policies}
use Rattle.model.specs.State.{table, maps_page}
use Rattle.model.specs.Fresh.{fresh_pages, fresh_guests, fresh_cache, fresh_with, fresh}
use Rattle.model.specs.RuleTests.{rule1?, rule2?, rule3?, rule4?, rule5?, maps_twice, rule6?, rule7?, rule8?, rule9?, columns, rule10?, rule11?}
use Rattle.model.specs.Valid.{Valid, sized?, valid?}
use Rattle.model.proofs.Valid.{valid⇔}
use Rattle.keeps.proofs.Core.{core_of, valid_of}
use Rattle.keeps.proofs.Parts.{PolicyOf, policy_core}

pub fresh_passes : valid? fresh ≡ true
unfolding first_from seek_from list_from bit table maps_page fresh_pages fresh_guests fresh_cache fresh_with rule1? rule2? rule3? rule4? rule5? maps_twice rule6? rule7? rule8? rule9? columns rule10? rule11? sized? valid?
fresh_passes = refl

back_valid : Valid fresh
back_valid = (valid⇔ fresh).0 fresh_passes

fresh_policy : (p : ℕ) → p < policies → PolicyOf (fresh_with p).shape (fresh_with p).values
unfolding fresh_with fresh_cache
fresh_policy p h =
    record {
      range = h;
      rule11 = record { same = λ _ i q hi hq e. absurd (omega (arith, get_or-replicate {A = ℕ} lines i 0 0 hi)) };
    }

pub fresh_valid : (p : ℕ) → p < policies → Valid (fresh_with p)
unfolding fresh_with table
fresh_valid p h = valid_of (policy_core (core_of back_valid) (fresh_policy p h)) back_valid.rule8 back_valid.rule9

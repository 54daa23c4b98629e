-- new_sm leads from valid states to valid states: the entry goes to an empty place, its line to the empty stealth set, its pair to the TLB.
-- Assumes nothing.
use mathlib.Core.Path.{◌≡◌, refl}
use Prim.Native.Nat.{ℕ, suc, ◌+◌, ◌*◌, ◌≤◌, ◌<◌}
use native.Mathlib.Omega.{arith}
use Rattle.laws.specs.Choice.{at}
use Rattle.laws.proofs.Lists.{at_same}
use Rattle.model.specs.Sizes.{physicals, pages, addresses, stealth}
use Rattle.model.specs.Names.{kind_data}
use Rattle.model.specs.State.{State, table, mapped, here, stealth_line}
use Rattle.model.specs.Parts.{shaped, set_entry, enter}
use Rattle.model.specs.NewSm.{new_sm_step}
use Rattle.model.specs.Rules.{Maps, Leads}
use Rattle.model.specs.Valid.{Valid}
use Rattle.keeps.proofs.Core.{Core, core_of, valid_of, leads_nowhere_law, in_force, here_owned}
use Rattle.keeps.proofs.Tlb.{translate_valid}
use Rattle.keeps.proofs.Entries.{storable, entry_here, entry_core, entry_rule8}
use Rattle.keeps.proofs.Calls.{clear_valid}
use Rattle.keeps.proofs.Stealth.{Unloaded, line_core, line_nine}

module _ {s : State} (v : Valid s) (pa : ℕ) (hpa : pa < physicals) (page : here s.shape pa < pages)
    (is_data : at s.shape.pages.kind (here s.shape pa) ≡ kind_data) (is_cacheable : at s.shape.pages.cacheable (here s.shape pa) ≡ 1)
    (only : (m va : ℕ) → Maps s.shape.pages.kind s.shape.pages.entry m va (here s.shape pa) → va ≡ stealth)
    (nowhere : pages ≤ mapped s.shape stealth) where
  -- the place of the entry, and the state once it is there
  abbrev place : ℕ
  place = addresses * table s.shape + stealth

  abbrev stored : State
  stored = shaped s (set_entry s.shape (table s.shape) stealth (suc (here s.shape pa)))

  place_in : place < pages * addresses
  place_in = let m = (in_force (core_of v)).page in omega arith

  free : at s.shape.pages.entry place ≡ 0
  free = leads_nowhere_law (at s.shape.pages.entry place) (v.rule10.pages.entry place place_in) nowhere

  -- so no line and no slot holds what stands there
  unheld : (p : ℕ) → at s.shape.pages.entry place ≡ suc p → ⊥
  unheld p e = omega (arith, free)

  stored_core : Core stored
  stored_core =
      let c = core_of v in
      entry_core (table s.shape) stealth (suc (here s.shape pa)) (omega arith)
      (storable
      (record {
        allowed = entry_here c refl page is_data (here_owned c pa hpa page).1;
        alone = λ _. only;
        stealthy = λ _. is_cacheable;
      }))
      (λ j p hj e a. unheld p) c

  -- the table in force led nowhere from the stealth address, so the stealth set is empty
  stored_unloaded : Unloaded s.shape.cache
  stored_unloaded = record { empty = v.rule9.empty (λ p l. unheld p l.holds); alone = v.rule9.alone; begun = v.rule9.begun }

  stored_leads : Leads stored.shape.pages.entry (table stored.shape) stealth (here s.shape pa)
  unfolding table
  stored_leads =
      record {
        page = page;
        in_force = (in_force (core_of v)).page;
        holds = at_same s.shape.pages.entry place (suc (here s.shape pa)) (omega (arith, place_in, v.sized.entry));
      }

  entered_valid : Valid (enter stored stealth_line stealth (here s.shape pa))
  unfolding enter table
  entered_valid =
      valid_of (line_core stored_core stored_unloaded stored_leads)
      (entry_rule8 (table s.shape) stealth (suc (here s.shape pa)) (omega arith) (λ j p hj e a. unheld p) v.rule8)
      (line_nine stored_core stored_unloaded stored_leads)

  pub new_sm_step_valid : Valid (new_sm_step s (here s.shape pa))
  unfolding new_sm_step enter table
  new_sm_step_valid = clear_valid (translate_valid entered_valid (omega arith) stored_leads)

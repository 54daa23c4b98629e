-- What `hide` leaves of a state, said number by number.
-- Assumes nothing.
use Rattle.std.specs.Prelude.{◌≡◌, ◌≢◌, ℕ}
use Rattle.laws.specs.Choice.{at}
use Rattle.model.specs.Sizes.{slot_of, stealth}
use Rattle.model.specs.Names.{owner_guest}
use Rattle.model.specs.State.{State, lead}

-- Two states look the same beside g: every number of pages, guests and cache, the policy, every slot but that of the stealth address, and every value but
-- those of g's pages.
pub record LooksSame (g : ℕ) (s t : State) : Type 0 where
  pub pages : s.shape.pages ≡ t.shape.pages
  pub guests : s.shape.guests ≡ t.shape.guests
  pub cache : s.shape.cache ≡ t.shape.cache
  pub policy : s.shape.policy ≡ t.shape.policy
  pub slot_address : (i : ℕ) → i ≢ slot_of stealth → at s.shape.tlb.slot_address i ≡ at t.shape.tlb.slot_address i
  pub slot_page : (i : ℕ) → i ≢ slot_of stealth → at s.shape.tlb.slot_page i ≡ at t.shape.tlb.slot_page i
  pub memory : (p : ℕ) → at s.shape.pages.owner p ≢ owner_guest g → at s.values.memory p ≡ at t.values.memory p
  pub line : (i : ℕ) → at s.shape.pages.owner (lead (at s.shape.cache.line_page i)) ≢ owner_guest g → at s.values.line i ≡ at t.values.line i

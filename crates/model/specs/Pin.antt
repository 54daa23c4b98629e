-- pin.
-- Assumes nothing.
use Rattle.std.specs.Prelude.{not, List, [], ◌∷◌, ℕ, suc, ◌+◌, ◌*◌, set}
use Rattle.laws.specs.Bits.{unmarked}
use Rattle.model.specs.Sizes.{physicals}
use Rattle.model.specs.Names.{owner_guest}
use Rattle.model.specs.State.{State, active}
use Rattle.model.specs.Checks.{Asked, Check}
use Rattle.model.specs.Parts.{with_pages, clear_call}

abbrev pub pin_checks : Asked → ℕ → List Check
pin_checks q pa = (10, q.registered pa) ∷ (11, not q.any_free) ∷ []

-- The page is taken for the active guest at pa: kind 0 data, 1 table; cacheable; value 0 or, as a free page has no entries, an empty table.
-- Call cleared.
unfoldable pub pin_step : State → ℕ → ℕ → ℕ → State
pin_step s pa k p =
    let h = s.shape in
    record {
      shape =
          clear_call
          (with_pages h
          (record {
            owner = set h.pages.owner p (owner_guest (active h));
            kind = set h.pages.kind p (suc k);
            cacheable = set h.pages.cacheable p 1;
            entry = h.pages.entry;
            physical = set h.pages.physical (physicals * active h + pa) (suc p);
            free = unmarked h.pages.free p;
          }));
      values = record { memory = set s.values.memory p 0; line = s.values.line };
    }

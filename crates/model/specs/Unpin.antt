-- unpin.
-- Assumes nothing.
use Rattle.std.specs.Prelude.{◌||◌, not, List, [], ◌∷◌, ℕ, ◌+◌, ◌*◌, set}
use Rattle.laws.specs.Bits.{marked}
use Rattle.model.specs.Sizes.{physicals}
use Rattle.model.specs.Names.{owner_none, kind_none}
use Rattle.model.specs.State.{State, active}
use Rattle.model.specs.Checks.{Asked, Check}
use Rattle.model.specs.Parts.{with_pages, clear_call}

abbrev pub unpin_checks : Asked → ℕ → List Check
unpin_checks q pa = (7, not (q.registered pa)) ∷ (12, q.current pa || (q.entries pa || q.anywhere pa)) ∷ []

-- The page is freed: value 0, cacheable, and it can be taken again. Call cleared.
unfoldable pub unpin_step : State → ℕ → ℕ → State
unpin_step s pa p =
    let h = s.shape in
    record {
      shape =
          clear_call
          (with_pages h
          (record {
            owner = set h.pages.owner p owner_none;
            kind = set h.pages.kind p kind_none;
            cacheable = set h.pages.cacheable p 1;
            entry = h.pages.entry;
            physical = set h.pages.physical (physicals * active h + pa) 0;
            free = marked h.pages.free p;
          }));
      values = record { memory = set s.values.memory p 0; line = s.values.line };
    }

-- docs/RULES.md as a table of findings: a few numbers changed in the fresh machine, a rule, and the part and place where it is broken first.
-- The places here are spelled as the rule book numbers them.
-- Assumes nothing.
use Rattle.std.specs.Prelude.{List, [], ◌∷◌, ◌++◌, ℕ, suc}
use Rattle.model.specs.Sizes.{guests, addresses, stealth_set}
use Rattle.model.specs.Names.{owner_guest, kind_data, write_through}
use Rattle.model.specs.State.{State}
use Rattle.model.specs.History.{start}
use Rattle.model.specs.Records.{call_new, call_pin}
use Rattle.model.specs.Damage.{Change, owner, kind, entry, current, active, history, policy, calling, lined, slotted, owned, changed, no_owner}
use Rattle.model.specs.Broken.{Finding, holds, broken, no_rule, first_broken}

pub record Found : Type 0 where
  pub rule : ℕ
  pub finding : Finding
  pub changes : List Change

abbrev pub finds : ℕ → ℕ → ℕ → List Change → Found
finds n k i cs = record { rule = n; finding = broken k i; changes = cs }

abbrev pub kept : ℕ → List Change → Found
kept n cs = record { rule = n; finding = holds; changes = cs }

abbrev pub unknown : ℕ → Found
unknown n = record { rule = n; finding = no_rule; changes = [] }

-- A few of them; `findings` has a table with each part of each rule.
unfoldable pub found_places : List Found
found_places =
    unknown 0
    ∷ finds 1 0 2 (calling 3 call_pin 0 2 ++ calling 2 call_new addresses 0)
    -- then pages that are not reached
    ∷ finds 3 1 8 (owned 63 (owner_guest 3) kind_data ++ owned 8 (owner_guest 0) kind_data)
    ∷ finds 5 0 3 (current 3 15 ∷ [])
    -- by the order of the pages, not of the entries that map them
    ∷ finds 6 0 8 (entry 0 0 10 ∷ entry 0 1 10 ∷ entry 0 2 9 ∷ entry 0 3 9 ∷ kind 8 kind_data ∷ kind 9 kind_data ∷ [])
    ∷ finds 8 0 7 (slotted 7 7 1)
    ∷ finds 9 1 0 (history stealth_set (suc start) ∷ [])
    ∷ finds 10 0 63 (slotted 7 7 0 ++ (active guests ∷ owner 63 no_owner ∷ []))
    ∷ finds 11 0 15 (policy write_through ∷ lined 15 7 1 5)
    -- a rule that holds, whatever is broken beside it
    ∷ kept 1 (active guests ∷ calling 0 call_pin 1 0)
    ∷ []

-- what checking says of each row, and what the table says
unfoldable pub told : State → List Found → List Finding
told s [] = []
told s (f ∷ fs) = first_broken f.rule (changed s f.changes) ∷ told s fs

unfoldable pub expected : List Found → List Finding
expected [] = []
expected (f ∷ fs) = f.finding ∷ expected fs

-- docs/RULES.md as one table of findings, in the words of `model`: in each part of each rule that bytes can break a place at its end or at its start; and where two places are
-- broken, the first in the order of places.
-- The places here are spelled as the rule book numbers them.
-- Assumes nothing.
use Rattle.std.specs.Prelude.{List, [], ◌∷◌, ◌++◌, suc}
use Rattle.model.specs.Sizes.{guests, addresses, stealth_set, calls, marks_bound, policies}
use Rattle.model.specs.Names.{owner_guest, kind_data, kind_table, running, write_through}
use Rattle.model.specs.State.{stealth_line}
use Rattle.model.specs.History.{start, histories}
use Rattle.model.specs.Records.{call_none, call_new, call_pin}
use Rattle.model.specs.Damage.{owner, kind, cacheable, entry, physical, frees, current, active, mode, history, memory, policy, calling, lined, slotted, owned, no_owner, leads_nowhere}
use Rattle.model.specs.BrokenSamples.{Found, finds, kept, unknown}

unfoldable pub every_part : List Found
every_part =
    -- there is no rule 0 and no rule past the last
    unknown 0
    ∷ unknown 12
    -- 1, 5: guests
    ∷ finds 1 0 0 (calling 0 call_pin 1 0)
    ∷ finds 1 0 2 (calling 3 call_pin 0 2 ++ calling 2 call_new addresses 0)
    ∷ finds 5 0 3 (current 3 15 ∷ [])
    ∷ finds 5 0 1 (current 3 15 ∷ physical 1 0 leads_nowhere ∷ [])
    -- 2: pages
    ∷ finds 2 0 4 (memory 63 1 ∷ frees 4 ∷ [])
    ∷ finds 2 0 63 (cacheable 63 0 ∷ [])
    -- 3: of two addresses that lead to one page the first; then pages that are not reached
    ∷ finds 3 0 0 (physical 0 15 1 ∷ [])
    ∷ finds 3 0 63 (physical 3 15 leads_nowhere ∷ owned 8 (owner_guest 3) kind_data)
    ∷ finds 3 1 8 (owned 63 (owner_guest 3) kind_data ++ owned 8 (owner_guest 0) kind_data)
    -- 4: entries, page by page
    ∷ finds 4 0 15 (entry 0 15 1 ∷ entry 1 0 1 ∷ [])
    ∷ finds 4 0 4095 (entry 63 63 1 ∷ [])
    -- 6: by the order of the pages, not of the entries that map them
    ∷ finds 6 0 8 (entry 0 0 10 ∷ entry 0 1 10 ∷ entry 0 2 9 ∷ entry 0 3 9 ∷ kind 8 kind_data ∷ kind 9 kind_data ∷ [])
    ∷ finds 6 0 63 (entry 3 7 64 ∷ cacheable 63 0 ∷ [])
    -- 7, 11: lines; of two with one key the first
    ∷ finds 7 0 2 (lined 3 1 9 0 ++ lined 2 1 9 0 ++ (entry 0 1 9 ∷ kind 8 kind_data ∷ []))
    ∷ finds 7 0 15 (lined 15 7 leads_nowhere 0)
    ∷ finds 11 0 15 (policy write_through ∷ lined 15 7 1 5)
    -- 8: slots, where there is a table in force and where there is none
    ∷ finds 8 0 7 (slotted 7 7 1)
    ∷ finds 8 0 0 (entry 0 0 9 ∷ slotted 0 0 9 ++ (current 0 15 ∷ []))
    -- 9: ways, then the history
    ∷ finds 9 0 1 (history stealth_set (suc start) ∷ lined (suc stealth_line) 7 1 0)
    ∷ finds 9 1 0 (history stealth_set (suc start) ∷ [])
    -- 10: field by field; then calls, empty ways, empty slots
    ∷ finds 10 0 63 (slotted 7 7 0 ++ (active guests ∷ owner 63 no_owner ∷ []))
    ∷ finds 10 1 0 (kind 0 (suc kind_table) ∷ cacheable 0 marks_bound ∷ [])
    ∷ finds 10 2 63 (cacheable 63 marks_bound ∷ physical 0 0 leads_nowhere ∷ [])
    ∷ finds 10 3 4095 (entry 63 63 leads_nowhere ∷ physical 0 0 leads_nowhere ∷ [])
    ∷ finds 10 4 63 (physical 3 15 leads_nowhere ∷ active guests ∷ [])
    ∷ finds 10 6 3 (current 3 16 ∷ calling 0 calls 0 0)
    ∷ finds 10 7 0 (calling 0 calls 64 16)
    ∷ finds 10 8 3 (calling 3 call_new 64 16)
    ∷ finds 10 9 3 (calling 3 call_new 63 16)
    ∷ finds 10 10 0 (active guests ∷ mode (suc running) ∷ [])
    ∷ finds 10 11 0 (mode (suc running) ∷ lined 0 64 leads_nowhere 0)
    ∷ finds 10 12 15 (lined 15 64 leads_nowhere 0)
    ∷ finds 10 13 0 (lined 0 0 leads_nowhere 0 ++ (history 0 histories ∷ []))
    ∷ finds 10 14 7 (history 7 histories ∷ slotted 0 64 leads_nowhere)
    ∷ finds 10 15 7 (slotted 7 64 leads_nowhere)
    ∷ finds 10 16 7 (slotted 7 0 leads_nowhere ++ (policy policies ∷ []))
    ∷ finds 10 19 0 (policy policies ∷ calling 0 call_none 1 0)
    ∷ finds 10 20 3 (lined 0 0 0 1 ++ calling 3 call_pin 16 0)
    ∷ finds 10 21 15 (slotted 0 8 0 ++ lined 15 0 0 1)
    ∷ finds 10 22 7 (slotted 7 7 0)
    -- a rule that holds, whatever is broken beside it
    ∷ kept 1 (active guests ∷ calling 0 call_pin 1 0)
    ∷ kept 8 (current 0 15 ∷ [])
    ∷ kept 11 (lined 15 7 1 5)
    ∷ []

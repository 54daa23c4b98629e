-- docs/HOST.md, "Valid states", as one table of damaged states: for each clause of each rule a state that breaks it, and for readings that were
-- decided a state that does not. A row is a few numbers changed in the fresh machine, or in one machine in use; the rule it is about; and the
-- rules that are broken there, that one alone wherever this is possible. Here each row's own rule is tested; `damage` tests all eleven.
-- Places hold a page plus one. Pages and addresses are spelled, at the edges of the sizes where it can be.
-- Assumes nothing.
use Rattle.std.specs.Prelude.{Bool, ◌&&◌, List, [], ◌∷◌, ◌++◌, suc, eqb}
use Rattle.std.specs.Bool.{beq}
use Rattle.laws.specs.Search.{all_in}
use Rattle.model.specs.Sizes.{guests, physicals, pages, addresses, first_reserved, stealth, stealth_set, calls, marks_bound, policies, value_bound}
use Rattle.model.specs.Names.{owner_none, owner_host, owner_guest, kind_none, kind_data, kind_table, waiting, running, write_through}
use Rattle.model.specs.State.{State, stealth_line}
use Rattle.model.specs.History.{start, histories}
use Rattle.model.specs.Fresh.{fresh}
use Rattle.model.specs.Records.{write, call_none, call_new, call_del, call_lswitch, call_pin, call_unpin}
use Rattle.model.specs.Step.{judge, step, number_of}
use Rattle.model.specs.Journal.{journal_refusal}
use Rattle.model.specs.Samples.{Exchange, passes, does, pins, maps, hides}
use Rattle.model.specs.Damage.{rule_test, Change, owner, kind, cacheable, entry, physical, frees, takes, current, active, mode, history, memory, policy, calling, lined, slotted, owned, given, changed, Damage, breaks, with, spares, no_owner, leads_nowhere}

-- ---- the fresh machine, damaged

unfoldable pub fresh_calls : List Damage
fresh_calls =
    -- 1. A running guest has no pending call
    breaks 1 (calling 0 call_pin 1 0)
    ∷ spares 1 [] (mode waiting ∷ calling 0 call_pin 1 0)
    ∷ spares 1 [] (calling 3 call_pin 1 0)
    -- running is exactly that mode, and a guest out of range does not run
    ∷ spares 1 (10 ∷ []) (mode (suc running) ∷ calling 0 call_pin 1 0)
    ∷ spares 1 (10 ∷ []) (active guests ∷ calling 0 call_pin 1 0)
    -- a stored call has arguments in range, unused ones zero: of each call
    ∷ with 1 (10 ∷ []) (calling 3 call_new addresses 0)
    ∷ with 1 (10 ∷ []) (calling 3 call_new 0 physicals)
    ∷ with 1 (10 ∷ []) (calling 3 call_del 0 1)
    ∷ with 1 (10 ∷ []) (calling 3 call_lswitch physicals 0)
    ∷ with 1 (10 ∷ []) (calling 3 call_pin 0 2)
    ∷ with 1 (10 ∷ []) (calling 3 call_unpin 0 1)
    -- a number past the last names no call, and the arguments of no call are rule 10's
    ∷ spares 1 (10 ∷ []) (calling 0 calls 0 0)
    ∷ spares 1 (10 ∷ []) (calling 3 call_none 1 0)
    ∷ []

unfoldable pub fresh_owners : List Damage
fresh_owners =
    -- 2. Pages 4 to 7, and only they, are the host's
    breaks 2 (owner 7 owner_none ∷ kind 7 kind_none ∷ frees 7 ∷ [])
    ∷ breaks 2 (owned 8 owner_host kind_data)
    -- data, cacheable, value 0
    ∷ breaks 2 (kind 4 kind_none ∷ [])
    ∷ breaks 2 (cacheable 4 0 ∷ [])
    ∷ breaks 2 (memory 4 1 ∷ [])
    -- A page without owner has kind none, value 0, is cacheable
    ∷ breaks 2 (kind 63 kind_data ∷ [])
    ∷ breaks 2 (cacheable 63 0 ∷ [])
    ∷ breaks 2 (memory 63 1 ∷ [])
    -- the map marks exactly these
    ∷ breaks 2 (frees 4 ∷ [])
    ∷ breaks 2 (frees 0 ∷ [])
    ∷ breaks 2 (takes 63 ∷ [])
    -- Guests' pages are data or table
    ∷ breaks 2 (given 0 1 8 kind_none)
    ∷ breaks 2 (given 3 15 63 kind_none)
    -- and nothing more is asked of a guest's data page
    ∷ spares 2 [] (memory 8 5 ∷ cacheable 8 0 ∷ given 0 1 8 kind_data)
    -- Tables have value 0 and are cacheable, whoever owns them
    ∷ breaks 2 (memory 0 1 ∷ [])
    ∷ breaks 2 (cacheable 0 0 ∷ [])
    ∷ with 2 (10 ∷ []) (memory 8 1 ∷ owned 8 no_owner kind_table)
    -- a page of any other owner is nobody's: its kind is not judged, and the map does not mark it
    ∷ spares 2 (10 ∷ []) (owned 8 no_owner kind_none)
    ∷ with 2 (10 ∷ []) (owner 8 no_owner ∷ [])
    -- cacheable is exactly the mark 1
    ∷ with 2 (10 ∷ []) (cacheable 63 marks_bound ∷ [])
    ∷ []

unfoldable pub fresh_addresses : List Damage
fresh_addresses =
    -- 3. Each guest's physical addresses lead to different pages
    breaks 3 (physical 0 15 1 ∷ [])
    -- all its own: not another guest's, the host's or nobody's
    ∷ breaks 3 (physical 3 15 1 ∷ [])
    ∷ breaks 3 (physical 0 1 5 ∷ [])
    ∷ breaks 3 (physical 0 1 64 ∷ [])
    -- a number out of range leads nowhere
    ∷ with 3 (10 ∷ []) (physical 3 15 leads_nowhere ∷ [])
    -- each of its pages is reached, but a page of no owner need not be
    ∷ breaks 3 (owned 63 (owner_guest 3) kind_data)
    ∷ spares 3 (10 ∷ []) (owned 63 no_owner kind_data)
    -- 5. Each current table is registered
    ∷ breaks 5 (current 3 15 ∷ [])
    ∷ with 5 (3 ∷ 10 ∷ []) (physical 3 0 leads_nowhere ∷ [])
    -- at an address in range: the next guest's first, which leads to a table of this one, is not its own
    ∷ with 5 (3 ∷ 10 ∷ []) (current 1 physicals ∷ physical 2 0 2 ∷ physical 2 1 3 ∷ current 2 1 ∷ [])
    -- is a table
    ∷ breaks 5 (current 3 15 ∷ given 3 15 63 kind_data)
    -- of its guest
    ∷ with 5 (3 ∷ []) (current 3 15 ∷ physical 3 15 1 ∷ [])
    -- 9 and 8 where the table in force is nowhere: nothing is asked of an empty set 7 and an empty TLB
    ∷ spares 9 (10 ∷ []) (active guests ∷ [])
    ∷ spares 8 (5 ∷ []) (current 0 15 ∷ [])
    ∷ []

-- page 1 is data, and guest 1's table is page 8
abbrev pub data_first : List Change
data_first = given 1 1 8 kind_table ++ (current 1 1 ∷ kind 1 kind_data ∷ [])

unfoldable pub fresh_mapped : List Damage
fresh_mapped =
    -- 6. A data page mapped at two different addresses, in one table or in two, is not cacheable
    breaks 6 (entry 8 0 2 ∷ entry 8 1 2 ∷ data_first)
    ∷ breaks 6 (entry 8 0 2 ∷ entry 9 1 2 ∷ given 1 2 9 kind_table ++ data_first)
    -- A page mapped at 7 is cacheable, in any table
    ∷ breaks 6 (entry 8 stealth 2 ∷ cacheable 1 0 ∷ given 1 2 9 kind_table ++ given 1 1 8 kind_table ++ (current 1 2 ∷ kind 1 kind_data ∷ []))
    -- cacheable is exactly the mark 1
    ∷ with 6 (10 ∷ []) (entry 8 stealth 2 ∷ cacheable 1 marks_bound ∷ data_first)
    ∷ []

unfoldable pub fresh_numbers : List Damage
fresh_numbers =
    -- 10. Every number is in its range (entries, physical addresses, lines and slots are with the rules that they break too): owners, kinds, marks
    breaks 10 (owned 63 no_owner kind_none)
    ∷ with 10 (2 ∷ []) (kind 63 (suc kind_table) ∷ [])
    ∷ breaks 10 (cacheable 63 marks_bound ∷ given 3 15 63 kind_data)
    -- the map
    ∷ breaks 10 (frees pages ∷ [])
    -- current addresses, calls, active guest, mode
    ∷ with 10 (5 ∷ []) (current 3 physicals ∷ [])
    ∷ breaks 10 (calling 3 calls 0 0)
    ∷ breaks 10 (active guests ∷ [])
    ∷ breaks 10 (mode (suc running) ∷ [])
    -- histories, values in memory
    ∷ breaks 10 (history 0 histories ∷ [])
    ∷ breaks 10 (memory 63 value_bound ∷ given 3 15 63 kind_data)
    -- the policy
    ∷ breaks 10 (policy policies ∷ [])
    -- empty places hold zeros: the arguments of no call
    ∷ breaks 10 (calling 3 call_none 1 0)
    ∷ breaks 10 (calling 3 call_none 0 1)
    -- an empty way's address and value
    ∷ breaks 10 (lined 15 7 0 0)
    ∷ breaks 10 (lined 15 0 0 1)
    -- an empty slot's address
    ∷ breaks 10 (slotted 7 7 0)
    ∷ []

-- ---- a machine in use, damaged

-- Guest 0 runs. Its table, page 0, maps 0 to page 8, written, and 7 to page 9; page 10 is an empty table, page 11 data that no table maps.
abbrev pub in_use : List Exchange
in_use = pins 1 0 ++ maps 0 1 ++ does (write 0 300) ++ pins 2 0 ++ hides 2 ++ pins 3 1 ++ pins 4 0

unfoldable pub used_entries : List Damage
used_entries =
    -- 4. Only tables hold entries
    breaks 4 (entry 11 0 9 ∷ [])
    -- an entry is at an address not reserved
    ∷ breaks 4 (entry 0 first_reserved 12 ∷ [])
    ∷ breaks 4 (entry 0 63 12 ∷ [])
    ∷ breaks 4 (entry 10 15 12 ∷ [])
    -- leads to a page
    ∷ with 4 (10 ∷ []) (entry 0 1 leads_nowhere ∷ [])
    -- of kind data
    ∷ breaks 4 (entry 0 1 11 ∷ [])
    -- of the same owner
    ∷ breaks 4 (entry 0 1 5 ∷ [])
    ∷ breaks 4 (entry 1 1 12 ∷ [])
    -- owner numbers out of range are no owner that could be the same, but 'none' is one of the owners
    ∷ with 4 (10 ∷ []) (entry 62 1 64 ∷ owned 62 no_owner kind_table ++ owned 63 no_owner kind_data)
    ∷ spares 4 (2 ∷ []) (entry 62 1 64 ∷ kind 62 kind_table ∷ kind 63 kind_data ∷ [])
    -- what does not break 6: a page mapped at two addresses that is not cacheable; one mapped at one address in two tables; entries of a page
    -- that is no table; a table, which is no data page
    ∷ breaks 4 (entry 0 1 12 ∷ entry 10 2 12 ∷ cacheable 11 0 ∷ entry 10 0 9 ∷ entry 11 1 9 ∷ entry 0 3 11 ∷ entry 0 4 11 ∷ [])
    ∷ []

unfoldable pub used_lines : List Damage
used_lines =
    -- 7. A cache line lies in its address's set
    breaks 7 (lined 0 0 0 0 ++ lined 2 0 9 300)
    -- at an address
    ∷ with 7 (10 ∷ []) (lined 0 addresses 9 300)
    -- its page is a page, cacheable, data
    ∷ with 7 (10 ∷ []) (lined 1 8 leads_nowhere 0)
    ∷ breaks 7 (cacheable 8 0 ∷ [])
    ∷ with 7 (4 ∷ []) (kind 8 kind_table ∷ [])
    -- and some table maps its address to it: not another address, not a page that is no table, but any table
    ∷ breaks 7 (lined 1 8 9 300)
    ∷ breaks 7 (entry 0 0 0 ∷ slotted 0 0 0)
    ∷ with 7 (4 ∷ []) (entry 0 0 0 ∷ entry 11 0 9 ∷ slotted 0 0 0)
    ∷ spares 7 [] (entry 0 0 0 ∷ entry 10 0 9 ∷ slotted 0 0 0)
    -- No key stands twice
    ∷ breaks 7 (lined 1 0 9 300)
    -- 9. If that table maps 7 to a page, set 7 holds that line in way 0, in both modes
    ∷ breaks 9 (lined stealth_line 0 0 0)
    ∷ breaks 9 (mode waiting ∷ lined stealth_line 0 0 0)
    ∷ breaks 9 (lined stealth_line 0 0 0 ++ lined (suc stealth_line) 7 10 0)
    ∷ breaks 9 (entry 10 7 12 ∷ lined stealth_line 7 12 0)
    ∷ with 9 (7 ∷ []) (lined stealth_line 15 10 0)
    -- whatever its value
    ∷ spares 9 [] (lined stealth_line 7 10 5)
    -- and nothing else
    ∷ breaks 9 (entry 10 7 12 ∷ lined (suc stealth_line) 7 12 0)
    -- if not, set 7 is empty; a page that leads nowhere is none
    ∷ breaks 9 (entry 0 7 0 ∷ entry 10 7 10 ∷ slotted 7 0 0)
    ∷ with 9 (4 ∷ 10 ∷ []) (entry 0 7 leads_nowhere ∷ entry 10 7 10 ∷ slotted 7 0 0)
    -- Its history is 0
    ∷ breaks 9 (history stealth_set (suc start) ∷ [])
    ∷ []

unfoldable pub used_slots : List Damage
used_slots =
    -- 8. A TLB entry lies in its slot
    breaks 8 (slotted 1 0 9)
    -- at an address: past the last stands the next table's first, which holds the page here
    ∷ with 8 (4 ∷ 10 ∷ []) (entry 1 0 9 ∷ slotted 0 addresses 9)
    -- agrees with the table in force: another page, an address that it does not map, another table's entry, a page that is none
    ∷ breaks 8 (slotted 0 0 12)
    ∷ breaks 8 (slotted 1 1 9)
    ∷ breaks 8 (entry 10 1 12 ∷ slotted 1 1 12)
    ∷ with 8 (4 ∷ 10 ∷ []) (entry 0 1 leads_nowhere ∷ slotted 1 1 leads_nowhere)
    -- which may be nowhere: no such guest, its current address out of range or not registered, the page there no table
    ∷ with 8 (9 ∷ 10 ∷ []) (active guests ∷ [])
    ∷ with 8 (5 ∷ 9 ∷ 10 ∷ []) (current 0 physicals ∷ [])
    ∷ with 8 (5 ∷ 9 ∷ []) (current 0 15 ∷ [])
    ∷ with 8 (5 ∷ 9 ∷ []) (current 0 1 ∷ [])
    -- 10. Every number is in its range: a line's value
    ∷ breaks 10 (lined 0 0 9 value_bound)
    ∷ []

-- Page 8 has 300 in its line and 0 in memory, page 9 0 in both.
unfoldable pub used_policies : List Damage
used_policies =
    -- 11. Under write-through each line's value is its page's in memory: of the first line, the stealth page's and the last that a set but 7 has
    breaks 11 (policy write_through ∷ [])
    ∷ breaks 11 (policy write_through ∷ memory 8 30 ∷ [])
    ∷ breaks 11 (policy write_through ∷ memory 8 300 ∷ lined stealth_line 7 10 5)
    ∷ breaks 11 (policy write_through ∷ memory 8 300 ∷ entry 10 6 12 ∷ lined 13 6 12 7)
    ∷ spares 11 [] (policy write_through ∷ memory 8 300 ∷ [])
    ∷ spares 11 [] (policy write_through ∷ memory 8 300 ∷ memory 9 5 ∷ lined stealth_line 7 10 5)
    -- of two lines of a page each
    ∷ with 11 (7 ∷ []) (policy write_through ∷ memory 8 300 ∷ lined 1 8 9 0)
    -- write-back says nothing of a line, and a number past the last is not write-through
    ∷ spares 11 [] []
    ∷ spares 11 (10 ∷ []) (policy policies ∷ [])
    -- an empty way and a line that leads nowhere are passed over
    ∷ spares 11 (10 ∷ []) (policy write_through ∷ memory 8 300 ∷ lined 15 0 0 1)
    ∷ spares 11 (7 ∷ 10 ∷ []) (policy write_through ∷ memory 8 300 ∷ lined 1 8 leads_nowhere 5)
    -- a page in memory that no line holds may have any value
    ∷ spares 11 [] (policy write_through ∷ memory 8 300 ∷ memory 11 5 ∷ [])
    ∷ []

-- ---- the table, for a test of a state and a row

unfoldable pub all_damaged : (State → Damage → Bool) → State → List Damage → Bool
all_damaged f s ds = all_in (λ i d. f (changed s d.changes) d) ds

-- every row, on the state it is about
unfoldable pub damaged : (State → Damage → Bool) → Bool
damaged f =
    all_damaged f fresh fresh_calls && all_damaged f fresh fresh_owners && all_damaged f fresh fresh_addresses && all_damaged f fresh fresh_mapped
    && all_damaged f fresh fresh_numbers
    && passes judge fresh in_use (λ s. all_damaged f s used_entries && all_damaged f s used_lines && all_damaged f s used_slots
    && all_damaged f s used_policies)

-- the row's own rule is broken, or holds, as the row says
unfoldable pub seen : State → Damage → Bool
seen s d = beq (rule_test d.rule s) d.holds

-- ---- check 1 comes before the others: a state that is not valid, with bytes that are no record and with a journal that has no header

unfoldable pub check_one_first : Bool
check_one_first =
    let s = changed fresh (calling 0 call_pin 1 0) in
    eqb (number_of (step s []).answer) 1 && eqb (journal_refusal s [] []) 1

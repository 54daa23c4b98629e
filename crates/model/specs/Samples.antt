-- docs/HOST.md, "Worked runs", and more, as one table: records from the fresh machine, the answer to each, and a test of the state at the end. Rows with
-- the same beginning stand together, and it is run once.
-- First single records and short runs, then the nine records and the runs after them, at least one for each mend of the paper, and the checks in their
-- order.
-- The numbers here are spelled as the rule book spells them.
-- Assumes nothing.
use Rattle.std.specs.Prelude.{Bool, true, false, ◌&&◌, List, [], ◌∷◌, ◌++◌, ℕ, zero, suc, eqb, length, replicate}
use Rattle.std.specs.Bool.{beq}
use Rattle.laws.specs.Choice.{at}
use Rattle.laws.specs.Search.{all_in}
use Rattle.model.specs.Sizes.{stealth}
use Rattle.model.specs.Names.{waiting}
use Rattle.model.specs.State.{State, stealth_line}
use Rattle.model.specs.Fresh.{fresh}
use Rattle.model.specs.Records.{Action, silent, read, read_hyper, write, write_hyper, new, new_sm, del, switch, lswitch, hcall, ret_ctrl, chmod, pin, unpin, drop, encode, word_bytes, call_none, call_new, call_del, call_lswitch, call_pin, call_unpin}
use Rattle.model.specs.Step.{Outcome, number_of, value_of}
use Rattle.model.specs.Run.{Ran, run_by}
use Rattle.model.specs.Journal.{header, records_of, report_of, played, has_header, form_refusal}

-- ---- a sample: records with the number and the value that each must be answered, and a test of the end

pub record Exchange : Type 0 where
  pub bytes : List ℕ
  pub number : ℕ
  pub value : ℕ

pub record Sample : Type 0 where
  pub records : List Exchange
  pub end : State → Bool

-- samples that go on from one beginning
pub record Group : Type 0 where
  pub start : List Exchange
  pub rows : List Sample

-- the step answers each record as it must, and the state at the end passes the test
unfoldable pub passes : (State → List ℕ → Outcome) → State → List Exchange → (State → Bool) → Bool
passes f s [] t = t s
passes f s (l ∷ ls) t =
    let o = f s l.bytes in
    elim (eqb (number_of o.answer) l.number && eqb (value_of o.answer) l.value) [ true ↦ passes f o.state ls t | false ↦ false ]

unfoldable pub all_pass : (State → List ℕ → Outcome) → State → List Sample → Bool
all_pass f s [] = true
all_pass f s (x ∷ xs) = elim (passes f s x.records x.end) [ true ↦ all_pass f s xs | false ↦ false ]

unfoldable pub groups_pass : (State → List ℕ → Outcome) → State → List Group → Bool
groups_pass f s [] = true
groups_pass f s (g ∷ gs) = elim (passes f s g.start (λ t. all_pass f t g.rows)) [ true ↦ groups_pass f s gs | false ↦ false ]

-- ---- words to write samples with

-- an action that is done, one that is refused, a read of a value, and bytes that are no record
abbrev pub does : Action → List Exchange
does x = record { bytes = encode x; number = 0; value = 0 } ∷ []

abbrev pub gets : ℕ → Action → List Exchange
gets n x = record { bytes = encode x; number = n; value = 0 } ∷ []

abbrev pub yields : ℕ → ℕ → List Exchange
yields va v = record { bytes = encode (read va); number = 0; value = v } ∷ []

abbrev pub yields_hyper : ℕ → ℕ → List Exchange
yields_hyper va v = record { bytes = encode (read_hyper va); number = 0; value = v } ∷ []

abbrev pub bad : List ℕ → List Exchange
bad l = record { bytes = l; number = 2; value = 0 } ∷ []

-- a guest's call, the host's act and the guest's turn again
abbrev pub pins : ℕ → ℕ → List Exchange
pins pa k = does (hcall call_pin pa k) ++ does (pin pa k) ++ does chmod

abbrev pub unpins : ℕ → List Exchange
unpins pa = does (hcall call_unpin pa 0) ++ does (unpin pa) ++ does chmod

abbrev pub maps : ℕ → ℕ → List Exchange
maps va pa = does (hcall call_new va pa) ++ does (new va pa) ++ does chmod

abbrev pub hides : ℕ → List Exchange
hides pa = does (hcall call_new stealth pa) ++ does (new_sm pa) ++ does chmod

abbrev pub deletes : ℕ → List Exchange
deletes va = does (hcall call_del va 0) ++ does (del va) ++ does chmod

-- guest 0 asks for del where the table in force maps nothing: refused, and the call is pending until it is dropped
abbrev pub misses : ℕ → List Exchange
misses va = does (hcall call_del va 0) ++ gets 6 (del va) ++ gets 4 chmod ++ does (drop 0) ++ does chmod

abbrev pub changes_table : ℕ → List Exchange
changes_table pa = does (hcall call_lswitch pa 0) ++ does (lswitch pa) ++ does chmod

abbrev pub turns_to : ℕ → List Exchange
turns_to g = does ret_ctrl ++ does (switch g) ++ does chmod

-- data pages at physical 1 to n
abbrev pub pins_to : ℕ → List Exchange
pins_to zero = []
pins_to (suc n) = pins_to n ++ pins (suc n) 0

-- a sample with a test of its end, and one without; samples with one beginning
abbrev pub ending : List Exchange → (State → Bool) → Sample
ending ls t = record { records = ls; end = t }

abbrev pub row : List Exchange → Sample
row ls = ending ls (λ s. true)

abbrev pub after : List Exchange → List Sample → Group
after ls xs = record { start = ls; rows = xs }

-- ---- what is read at the end

abbrev pub memory_is : ℕ → ℕ → State → Bool
memory_is p v s = eqb (at s.values.memory p) v

abbrev pub mark_is : ℕ → ℕ → State → Bool
mark_is p m s = eqb (at s.shape.pages.cacheable p) m

abbrev pub line_is : ℕ → ℕ → ℕ → ℕ → State → Bool
line_is i va p v s = eqb (at s.shape.cache.line_address i) va && eqb (at s.shape.cache.line_page i) (suc p) && eqb (at s.values.line i) v

-- an empty place is all zero
abbrev pub no_line_at : ℕ → State → Bool
no_line_at i s = eqb (at s.shape.cache.line_address i) 0 && eqb (at s.shape.cache.line_page i) 0 && eqb (at s.values.line i) 0

abbrev pub history_is : ℕ → ℕ → State → Bool
history_is k h s = eqb (at s.shape.cache.history k) h

abbrev pub slot_is : ℕ → ℕ → ℕ → State → Bool
slot_is i va p s = eqb (at s.shape.tlb.slot_address i) va && eqb (at s.shape.tlb.slot_page i) (suc p)

abbrev pub slot_empty : ℕ → State → Bool
slot_empty i s = eqb (at s.shape.tlb.slot_address i) 0 && eqb (at s.shape.tlb.slot_page i) 0

abbrev pub call_is : ℕ → ℕ → ℕ → ℕ → State → Bool
call_is g c a b s = eqb (at s.shape.guests.call g) c && eqb (at s.shape.guests.call_a g) a && eqb (at s.shape.guests.call_b g) b

-- ---- single records and short runs, the nine records, a line taken out, all pages pinned

-- the nine records
abbrev pub nine : List Exchange
nine = pins 1 0 ++ maps 0 1 ++ does (write 0 300) ++ yields 0 300 ++ gets 6 (read 1)

-- the same as bytes
abbrev pub nine_bytes : List ℕ
nine_bytes =
    0x0A ∷ 0x01 ∷ 0x00 ∷ 0x04 ∷ 0x00 ∷ 0x00 ∷ 0x00 ∷ 0x00 ∷ 0x0D ∷ 0x01 ∷ 0x00 ∷ 0x00 ∷ 0x00 ∷ 0x00 ∷ 0x00 ∷ 0x00
    ∷ 0x0C ∷ 0x00 ∷ 0x00 ∷ 0x00 ∷ 0x00 ∷ 0x00 ∷ 0x00 ∷ 0x00 ∷ 0x0A ∷ 0x00 ∷ 0x01 ∷ 0x01 ∷ 0x00 ∷ 0x00 ∷ 0x00 ∷ 0x00
    ∷ 0x05 ∷ 0x00 ∷ 0x01 ∷ 0x00 ∷ 0x00 ∷ 0x00 ∷ 0x00 ∷ 0x00 ∷ 0x0C ∷ 0x00 ∷ 0x00 ∷ 0x00 ∷ 0x00 ∷ 0x00 ∷ 0x00 ∷ 0x00
    ∷ 0x03 ∷ 0x00 ∷ 0x00 ∷ 0x00 ∷ 0x2C ∷ 0x01 ∷ 0x00 ∷ 0x00 ∷ 0x01 ∷ 0x00 ∷ 0x00 ∷ 0x00 ∷ 0x00 ∷ 0x00 ∷ 0x00 ∷ 0x00
    ∷ 0x01 ∷ 0x01 ∷ 0x00 ∷ 0x00 ∷ 0x00 ∷ 0x00 ∷ 0x00 ∷ 0x00 ∷ []

abbrev pub short_runs : List Sample
short_runs =
    row (does silent)
    ∷ row (bad (0 ∷ 0 ∷ 0 ∷ 0 ∷ 0 ∷ 0 ∷ 0 ∷ 0 ∷ 0 ∷ []))
    ∷ row (bad (16 ∷ 0 ∷ 0 ∷ 0 ∷ 0 ∷ 0 ∷ 0 ∷ 0 ∷ []))
    ∷ row (gets 3 (unpin 15))
    ∷ row (gets 2 (unpin 16))
    ∷ row (gets 6 (read 46))
    ∷ row (gets 5 (read 47))
    ∷ row (gets 2 (read 64))
    ∷ row (gets 3 chmod)
    ∷ row (does ret_ctrl ++ gets 3 ret_ctrl)
    ∷ row (does ret_ctrl ++ does (switch 1))
    ∷ row (does ret_ctrl ++ does (switch 1) ++ gets 2 (switch 4))
    ∷ row (does (hcall call_pin 0 0) ++ gets 10 (pin 0 0))
    ∷ row (does (hcall call_unpin 0 0) ++ gets 12 (unpin 0))
    ∷ []

abbrev pub after_nine : List Sample
after_nine =
    ending [] (λ s. memory_is 8 0 s && line_is 0 0 8 300 s && history_is 0 1 s && slot_is 0 0 8 s)
    -- then mapping that page at 1 too; the TLB gets the pair of a page not cacheable too
    ∷ ending (maps 1 1 ++ yields 1 300) (λ s. memory_is 8 300 s && mark_is 8 0 s && no_line_at 0 s && slot_is 1 1 8 s)
    ∷ []

-- pages at 0, 8, 16 used in turn, with a hit on the first in between: the third takes out the first all the same
abbrev pub evicting : List Sample
evicting =
    ending
    (pins_to 3 ++ maps 0 1 ++ maps 8 2 ++ maps 16 3 ++ does (write 0 5) ++ yields 8 0 ++ yields 0 5 ++ yields 16 0)
    (λ s. memory_is 8 5 s && line_is 0 16 10 0 s && line_is 1 8 9 0 s && history_is 0 1 s)
    ∷ []

-- 56 pins over all guests pass, the 57th is 11, but 10 at an address that is taken; after one unpin a pin passes
abbrev pub pinning_all : List Sample
pinning_all =
    row
    (pins_to 15 ++ turns_to 1 ++ pins_to 15 ++ turns_to 2 ++ pins_to 15 ++ turns_to 3 ++ pins_to 11 ++ does (hcall call_pin 12 0) ++ gets 11 (pin 12 0)
    ++ does (switch 0) ++ does chmod ++ does (hcall call_pin 3 0) ++ gets 10 (pin 3 0) ++ does (switch 1) ++ does chmod ++ unpins 3 ++ pins 3 0)
    ∷ []

-- ---- the mends: of lines and sharing, after the nine records

abbrev pub line_mends : List Sample
line_mends =
    -- del and new write a dirty line back, and a line that is taken out leaves the history
    ending (deletes 0) (λ s. memory_is 8 300 s && no_line_at 0 s && history_is 0 1 s)
    ∷ row (deletes 0 ++ maps 9 1 ++ yields 9 300 ++ deletes 9)
    ∷ ending (pins 2 0 ++ maps 0 2 ++ yields 0 0) (λ s. memory_is 8 300 s && line_is 0 0 9 0 s)
    -- also where the page is the same, and the TLB entry goes
    ∷ ending (maps 0 1) (λ s. slot_empty 0 s && no_line_at 0 s && memory_is 8 300 s)
    -- but not where the slot holds another address
    ∷ ending (pins 2 0 ++ maps 16 2 ++ deletes 16) (λ s. slot_is 0 0 8 s && line_is 0 0 8 300 s)
    ∷ ending (pins 2 0 ++ maps 8 2) (slot_is 0 0 8)
    -- del finds nothing the second time, nor another guest's of the same number, nor one of an address of the same set and slot; what is there stays
    ∷ row (deletes 0 ++ misses 0 ++ maps 0 1 ++ deletes 0 ++ maps 0 1 ++ yields 0 300 ++ deletes 0)
    ∷ ending (turns_to 1 ++ does (hcall call_del 0 0) ++ gets 6 (del 0)) (λ s. call_is 1 call_del 0 0 s && line_is 0 0 8 300 s && memory_is 8 0 s)
    ∷ ending (misses 16) (λ s. slot_is 0 0 8 s && line_is 0 0 8 300 s)
    -- a page not cacheable never enters the cache
    ∷ ending (maps 1 1 ++ yields 1 300 ++ does (write 1 7) ++ yields 0 7) (λ s. no_line_at 0 s && no_line_at 2 s && memory_is 8 7 s)
    -- it is not cacheable until it is given back
    ∷ ending (maps 1 1 ++ deletes 1) (mark_is 8 0)
    ∷ ending (maps 1 1 ++ deletes 0 ++ deletes 1 ++ unpins 1) (λ s. mark_is 8 1 s && memory_is 8 0 s)
    -- the TLB is emptied though guest or table is the same
    ∷ ending (turns_to 1) (slot_empty 0)
    ∷ ending (turns_to 0) (slot_empty 0)
    ∷ ending (changes_table 0) (slot_empty 0)
    -- read_hyper and write_hyper do as read and write, and the host keeps control
    ∷ ending (pins 2 0 ++ maps 1 2 ++ does ret_ctrl ++ yields_hyper 0 300 ++ yields_hyper 1 0 ++ gets 3 (read 0))
    (λ s. line_is 2 1 9 0 s && history_is 1 1 s && slot_is 1 1 9 s)
    ∷ ending (pins 2 0 ++ maps 1 2 ++ does ret_ctrl ++ does (write_hyper 1 70000) ++ yields_hyper 1 70000)
    (λ s. line_is 2 1 9 70000 s && memory_is 9 0 s && history_is 1 1 s && slot_is 1 1 9 s)
    -- new_sm of a page that is mapped elsewhere; of one that is mapped nowhere and not cacheable
    ∷ row (does (hcall call_new 7 1) ++ gets 9 (new_sm 1))
    ∷ row (maps 1 1 ++ deletes 0 ++ deletes 1 ++ does (hcall call_new 7 1) ++ gets 9 (new_sm 1))
    -- unpin of a page that a table maps
    ∷ row (does (hcall call_unpin 1 0) ++ gets 12 (unpin 1))
    ∷ []

-- with a second table: sharing is looked for in all tables; the same address in two tables is not sharing
abbrev pub sharing_mends : List Sample
sharing_mends =
    ending (maps 0 1 ++ yields 0 300) (mark_is 8 1)
    ∷ ending (maps 1 1 ++ yields 1 300) (mark_is 8 0)
    -- del of what only another table maps
    ∷ ending (misses 0 ++ changes_table 0 ++ yields 0 300) (λ s. call_is 0 call_none 0 0 s && line_is 0 0 8 300 s)
    -- unpin of a table with entries that is not current
    ∷ row (does (hcall call_unpin 0 0) ++ gets 12 (unpin 0))
    ∷ []

-- two guests' pages at one address are two lines
abbrev pub key_mends : List Sample
key_mends =
    ending
    (pins 1 0 ++ maps 0 1 ++ turns_to 1 ++ pins 1 0 ++ maps 0 1 ++ turns_to 0 ++ does (write 0 300) ++ turns_to 1 ++ yields 0 0 ++ does (write 0 30)
    ++ turns_to 0 ++ yields 0 300)
    (λ s. line_is 0 0 8 300 s && line_is 1 0 9 30 s)
    ∷ []

-- ---- the mends of the stealth page, after one was hidden at physical 1 and written

abbrev pub stealth_mends : List Sample
stealth_mends =
    ending [] (λ s. slot_is 7 7 8 s && line_is stealth_line 7 8 5 s && memory_is 8 0 s && history_is 7 0 s)
    -- switch and lswitch save it before they load: with the same guest or table the write stays
    ∷ row (turns_to 0 ++ yields 7 5)
    ∷ row (changes_table 0 ++ yields 7 5)
    -- del takes it out as any other line
    ∷ ending (deletes 7 ++ gets 6 (read 7)) (λ s. no_line_at stealth_line s && memory_is 8 5 s && slot_empty 7 s && history_is 7 0 s)
    -- new refuses it; new_sm refuses a second one, the same page too, but 9 comes before 10
    ∷ row (does (hcall call_new 0 1) ++ gets 9 (new 0 1))
    ∷ row (does (hcall call_new 7 1) ++ gets 10 (new_sm 1))
    ∷ row (pins 2 0 ++ maps 0 2 ++ does (hcall call_new 7 2) ++ gets 9 (new_sm 2))
    ∷ []

-- with a second table in force: lswitch loads by the new table, and new looks in every table
abbrev pub table_mends : List Sample
table_mends =
    ending (gets 6 (read 7)) (no_line_at stealth_line)
    ∷ row (pins 3 0 ++ hides 3 ++ does (write 7 9) ++ changes_table 0 ++ yields 7 5 ++ changes_table 2 ++ yields 7 9)
    ∷ row (does (hcall call_new 0 1) ++ gets 9 (new 0 1))
    -- del of 7, which only the other table maps
    ∷ row (misses 7 ++ changes_table 0 ++ yields 7 5)
    -- new_sm takes a page that another table has at 7: one page, whichever table is in force
    ∷ row (hides 1 ++ yields 7 5 ++ does (write 7 6) ++ changes_table 0 ++ yields 7 6)
    ∷ []

-- ---- further rows from the fresh machine: bytes that are no record, checks in their order, each number given

abbrev pub bad_records : List Sample
bad_records =
    -- a value, a call, a b and an a that are not used
    row (bad (1 ∷ 0 ∷ 0 ∷ 0 ∷ 1 ∷ 0 ∷ 0 ∷ 0 ∷ []) ++ bad (1 ∷ 0 ∷ 0 ∷ 0 ∷ 0 ∷ 0 ∷ 0 ∷ 1 ∷ []) ++ bad (10 ∷ 1 ∷ 0 ∷ 4 ∷ 1 ∷ 0 ∷ 0 ∷ 0 ∷ []))
    ∷ row (bad (1 ∷ 0 ∷ 0 ∷ 1 ∷ 0 ∷ 0 ∷ 0 ∷ 0 ∷ []) ++ bad (12 ∷ 0 ∷ 0 ∷ 1 ∷ 0 ∷ 0 ∷ 0 ∷ 0 ∷ []))
    ∷ row (bad (1 ∷ 0 ∷ 1 ∷ 0 ∷ 0 ∷ 0 ∷ 0 ∷ 0 ∷ []) ++ bad (10 ∷ 0 ∷ 1 ∷ 2 ∷ 0 ∷ 0 ∷ 0 ∷ 0 ∷ []) ++ bad (10 ∷ 0 ∷ 1 ∷ 0 ∷ 0 ∷ 0 ∷ 0 ∷ 0 ∷ []))
    ∷ row (bad (0 ∷ 1 ∷ 0 ∷ 0 ∷ 0 ∷ 0 ∷ 0 ∷ 0 ∷ []) ++ bad (10 ∷ 1 ∷ 0 ∷ 0 ∷ 0 ∷ 0 ∷ 0 ∷ 0 ∷ []))
    -- no such call; a pin of no kind; new_sm at 8; too few bytes
    ∷ row (bad (10 ∷ 0 ∷ 0 ∷ 6 ∷ 0 ∷ 0 ∷ 0 ∷ 0 ∷ []) ++ bad (13 ∷ 1 ∷ 2 ∷ 0 ∷ 0 ∷ 0 ∷ 0 ∷ 0 ∷ []) ++ bad (6 ∷ 8 ∷ 1 ∷ 0 ∷ 0 ∷ 0 ∷ 0 ∷ 0 ∷ []))
    ∷ row (bad (0 ∷ 0 ∷ 0 ∷ 0 ∷ 0 ∷ 0 ∷ 0 ∷ []) ++ bad [])
    ∷ []

abbrev pub checks_in_order : List Sample
checks_in_order =
    row (does (hcall call_new 48 9) ++ gets 5 (new 48 9))
    -- the pending call is exactly this one, by number, a and b; new_sm's is new
    ∷ row (does (hcall call_new 7 9) ++ gets 5 (new 7 9) ++ gets 7 (new_sm 9) ++ gets 4 (new 8 9) ++ gets 4 (pin 9 0) ++ gets 4 chmod ++ gets 4 (switch 0))
    ∷ row (does (hcall call_new 7 9) ++ gets 4 (new_sm 8) ++ gets 4 (new 7 8))
    ∷ row (does (hcall call_pin 1 0) ++ gets 4 (pin 1 1) ++ gets 4 (unpin 1) ++ does (pin 1 0) ++ gets 4 (pin 1 0))
    -- hcall none stores none, and gives the host control
    ∷ row (does (hcall call_none 0 0) ++ gets 3 (read 0) ++ gets 4 (pin 0 0) ++ does chmod ++ gets 3 chmod)
    -- read_hyper, write and write_hyper check the address too
    ∷ row (gets 5 (write 15 1) ++ gets 6 (write 0 1) ++ does ret_ctrl ++ gets 5 (read_hyper 15) ++ gets 6 (read_hyper 0) ++ gets 5 (write_hyper 63 1)
    ++ gets 6 (write_hyper 0 1))
    -- del of an address that is not mapped, of 7 too, and of a reserved one
    ∷ row (misses 0 ++ misses 7 ++ does (hcall call_del 15 0) ++ gets 5 (del 15) ++ does (drop 0) ++ does chmod ++ does (hcall call_del 63 0) ++ gets 5 (del 63))
    ∷ row (does (hcall call_new 0 0) ++ gets 8 (new 0 0))
    ∷ row (does (hcall call_new 7 0) ++ gets 8 (new_sm 0))
    ∷ row (does (hcall call_lswitch 1 0) ++ gets 7 (lswitch 1))
    ∷ row (does (hcall call_unpin 1 0) ++ gets 7 (unpin 1))
    ∷ row (pins 1 0 ++ does (hcall call_lswitch 1 0) ++ gets 8 (lswitch 1))
    -- a table that is empty and not current is given back, and its address can be taken again
    ∷ row (pins 1 1 ++ unpins 1 ++ pins 1 0)
    -- the lowest page that is free, not the next
    ∷ ending (pins 1 0 ++ pins 2 0 ++ unpins 1 ++ pins 3 0) (λ s. eqb (at s.shape.pages.physical 3) 9)
    ∷ []

-- ---- calls that the host declines

-- the host has control, and guest g is the active one
abbrev pub waits_at : ℕ → State → Bool
waits_at g s = eqb s.shape.guests.mode waiting && eqb s.shape.guests.active g

abbrev pub declines : List Sample
declines =
    row (does (hcall call_pin 0 0) ++ gets 10 (pin 0 0) ++ gets 4 chmod ++ does (drop 0) ++ gets 4 (pin 0 0) ++ does chmod)
    -- no such guest; a guest runs; no call, of the active guest or of another
    ∷ row (gets 2 (drop 4) ++ gets 3 (drop 0) ++ does ret_ctrl ++ gets 2 (drop 4) ++ gets 4 (drop 0) ++ gets 4 (drop 3))
    -- a guest's call is left behind and declined from another; that one's own stays, as do the active guest and the mode
    ∷ row (does (hcall call_new 48 9) ++ does (switch 1) ++ gets 4 (switch 0) ++ does (drop 0) ++ does (switch 0) ++ does chmod ++ gets 3 (drop 0))
    ∷ ending (does (hcall call_new 48 9) ++ does (switch 1) ++ does chmod ++ does (hcall call_pin 5 1) ++ does (drop 0))
    (λ s. call_is 0 call_none 0 0 s && call_is 1 call_pin 5 1 s && waits_at 1 s)
    ∷ ending (turns_to 2 ++ does (hcall call_pin 5 1) ++ does (switch 0) ++ does (drop 2)) (λ s. call_is 2 call_none 0 0 s && waits_at 0 s)
    -- the cache and the TLB are left alone
    ∷ ending (nine ++ does (hcall call_pin 5 1) ++ does (drop 0))
    (λ s. call_is 0 call_none 0 0 s && waits_at 0 s && line_is 0 0 8 300 s && history_is 0 1 s && slot_is 0 0 8 s && memory_is 8 0 s)
    -- a b, a call and a value that are not used
    ∷ row (bad (15 ∷ 0 ∷ 1 ∷ 0 ∷ 0 ∷ 0 ∷ 0 ∷ 0 ∷ []) ++ bad (15 ∷ 0 ∷ 0 ∷ 1 ∷ 0 ∷ 0 ∷ 0 ∷ 0 ∷ []) ++ bad (15 ∷ 0 ∷ 0 ∷ 0 ∷ 0 ∷ 0 ∷ 0 ∷ 1 ∷ []))
    ∷ []

-- the longest run last
unfoldable pub samples : List Group
samples =
    after [] short_runs
    ∷ after nine (after_nine ++ line_mends)
    ∷ after (nine ++ pins 2 1 ++ changes_table 2) sharing_mends
    ∷ after (pins 1 0 ++ hides 1 ++ does (write 7 5)) stealth_mends
    ∷ after (pins 1 0 ++ hides 1 ++ does (write 7 5) ++ pins 2 1 ++ changes_table 2) table_mends
    ∷ after [] (bad_records ++ checks_in_order ++ declines ++ evicting ++ key_mends ++ pinning_all)
    ∷ []

-- ---- journals: their headers, their lengths at the edges, and the nine records whole

-- bytes, and whether they start with the header
abbrev pub headers : List (List ℕ × Bool)
headers =
    ([], false)
    ∷ (81 ∷ 80 ∷ 74 ∷ 1 ∷ 0 ∷ 0 ∷ 0 ∷ 0 ∷ [], false)
    ∷ (82 ∷ 81 ∷ 74 ∷ 1 ∷ 0 ∷ 0 ∷ 0 ∷ 0 ∷ [], false)
    ∷ (82 ∷ 80 ∷ 75 ∷ 1 ∷ 0 ∷ 0 ∷ 0 ∷ 0 ∷ [], false)
    ∷ (82 ∷ 80 ∷ 74 ∷ 1 ∷ 0 ∷ 1 ∷ 0 ∷ 0 ∷ [], false)
    ∷ (82 ∷ 80 ∷ 74 ∷ 1 ∷ 0 ∷ 0 ∷ 1 ∷ 0 ∷ [], false)
    ∷ (82 ∷ 80 ∷ 74 ∷ 1 ∷ 0 ∷ 0 ∷ 0 ∷ [], false)
    ∷ (82 ∷ 80 ∷ 74 ∷ 2 ∷ 0 ∷ 0 ∷ 0 ∷ 0 ∷ [], false)
    ∷ (82 ∷ 80 ∷ 74 ∷ 1 ∷ 1 ∷ 0 ∷ 0 ∷ 0 ∷ [], false)
    ∷ (82 ∷ 80 ∷ 74 ∷ 1 ∷ 0 ∷ 0 ∷ 0 ∷ 1 ∷ [], false)
    ∷ (82 ∷ 80 ∷ 74 ∷ 1 ∷ 0 ∷ 0 ∷ 0 ∷ 0 ∷ [], true)
    ∷ (82 ∷ 80 ∷ 74 ∷ 1 ∷ 0 ∷ 0 ∷ 0 ∷ 0 ∷ 5 ∷ [], true)
    ∷ []

-- the lengths of a journal and of its buffer, and the refusal, with the header and without
pub record Edge : Type 0 where
  pub journal : ℕ
  pub buffer : ℕ
  pub number : ℕ
  pub headless : ℕ

abbrev pub edge : ℕ → ℕ → ℕ → Edge
edge j b n = record { journal = j; buffer = b; number = n; headless = 13 }

abbrev pub edges : List Edge
edges = edge 8 0 0 ∷ edge 32783 32768 0 ∷ edge 32783 32767 15 ∷ edge 32784 0 14 ∷ edge 32784 32776 14 ∷ edge 31 15 15 ∷ edge 31 16 0 ∷ []

-- the bytes of the answers
abbrev pub answers_in : List Exchange → List ℕ
answers_in [] = []
answers_in (l ∷ ls) = (l.number ∷ 0 ∷ 0 ∷ 0 ∷ word_bytes l.value) ++ answers_in ls

-- the same bytes at the same places
abbrev pub same_bytes : List ℕ → List ℕ → Bool
same_bytes a b = eqb (length a) (length b) && all_in (λ i x. eqb x (at b i)) a

-- the nine records as a journal, with three bytes left over
abbrev pub nine_journal : List ℕ
nine_journal = header ++ nine_bytes ++ (1 ∷ 2 ∷ 3 ∷ [])

-- a run of them reports and answers what it must, in a buffer with four bytes more
unfoldable pub nine_right : Ran → Bool
nine_right t =
    let a = played t nine_journal (replicate 76 9) in
    let r = report_of a.verdict in
    eqb r.taken 9 && eqb r.accepted 8 && eqb r.refused 1 && eqb r.left_over 3
    && same_bytes a.buffer (answers_in nine ++ (9 ∷ 9 ∷ 9 ∷ 9 ∷ []))

abbrev pub nine_played : (State → List ℕ → Outcome) → Bool
nine_played f = nine_right (run_by f fresh (records_of nine_journal))

unfoldable pub journals_pass : Bool
journals_pass =
    all_in (λ i x. beq (has_header x.0) x.1) headers
    && all_in (λ i e. eqb (form_refusal true e.journal e.buffer) e.number && eqb (form_refusal false e.journal e.buffer) e.headless) edges

-- ---- the table passes, for a step that answers records

unfoldable pub all_samples : (State → List ℕ → Outcome) → Bool
all_samples f = groups_pass f fresh samples && nine_played f && journals_pass

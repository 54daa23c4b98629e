-- docs/HOST.md, "Valid states": the eleven rules, each over the lists that it reads.
-- A place holds a page plus one: `≡ suc p` says that it is not empty and holds p. Where it must lead to a page, a number out of range breaks the rule.
-- Assumes nothing.
use Rattle.std.specs.Prelude.{◌≡◌, false, ◌⊎◌, ◌≢◌, ◌↔◌, List, ℕ, suc, ◌+◌, ◌*◌, ◌/◌, ◌^◌, ◌≤◌, ◌<◌}
use Rattle.laws.specs.Choice.{at}
use Rattle.laws.specs.Bits.{bit}
use Rattle.model.specs.Sizes.{guests, physicals, pages, addresses, first_host_page, first_free_page, ways, lines, sets, slots, stealth, stealth_set, reserved, set_of, slot_of, calls, call_a_bound, call_b_bound, marks_bound, policies, value_bound}
use Rattle.model.specs.Names.{owner_none, owner_host, owner_guest, kind_none, kind_data, kind_table, running, write_through}
use Rattle.model.specs.State.{Pages, Guests, Cache, Tlb, Values, State, stealth_line, line_at}
use Rattle.model.specs.History.{start, histories}
use Rattle.model.specs.Records.{Row, row_of, kind_of_call}

-- a stored call is a number from 1 on that names a call
pub record Stored (c : ℕ) : Type 0 where
  pub some : 1 ≤ c
  pub known : c < calls

-- a and b are within the row's limits; an unused one is zero
pub record Within (r : Row) (a b : ℕ) : Type 0 where
  pub a_low : r.a_from ≤ a
  pub a_high : a < r.a_below
  pub b_low : r.b_from ≤ b
  pub b_high : b < r.b_below

abbrev pub Fits : ℕ → ℕ → ℕ → Type 0
Fits c a b = Within (row_of (kind_of_call c)) a b

-- table m maps va to page p
pub record Maps (kind entry : List ℕ) (m va p : ℕ) : Type 0 where
  pub page : m < pages
  pub address : va < addresses
  pub is_table : at kind m ≡ kind_table
  pub holds : at entry (addresses * m + va) ≡ suc p

-- 1. While a guest runs, it has no pending call. A pending call's arguments are in the range of that call, and 0 where the call does not use them.
pub record Rule1 (call call_a call_b : List ℕ) (active mode : ℕ) : Type 0 where
  pub idle : active < guests → mode ≡ running → Stored (at call active) → ⊥
  pub fits : (g : ℕ) → g < guests → Stored (at call g) → Fits (at call g) (at call_a g) (at call_b g)

-- 2. Pages 4 to 7 are the host's, and no others; they are data and cacheable, with value 0. A page without owner is of kind none and cacheable,
-- with value 0, and the map marks these pages and no others. A guest's page is data or a table. A table is cacheable, with value 0.
pub record Rule2 (owner kind cacheable memory : List ℕ) (free : ℕ) : Type 0 where
  pub hosts : (p : ℕ) → p < pages → ((first_host_page ≤ p) × (p < first_free_page)) ↔ (at owner p ≡ owner_host)
  pub host : (p : ℕ) → p < pages → at owner p ≡ owner_host → (at kind p ≡ kind_data) × (at cacheable p ≡ 1) × (at memory p ≡ 0)
  pub ownerless : (p : ℕ) → p < pages → at owner p ≡ owner_none → (at kind p ≡ kind_none) × (at cacheable p ≡ 1) × (at memory p ≡ 0)
  pub map : (p : ℕ) → p < pages → (bit free p ≡ 1) ↔ (at owner p ≡ owner_none)
  pub guest : (g p : ℕ) → g < guests → p < pages → at owner p ≡ owner_guest g → (at kind p ≡ kind_data) ⊎ (at kind p ≡ kind_table)
  pub tables : (p : ℕ) → p < pages → at kind p ≡ kind_table → (at cacheable p ≡ 1) × (at memory p ≡ 0)

-- 3. The physical addresses of a guest that are not empty lead to different pages, each owned by that guest, and each page that a guest owns is
-- reached by one of them.
pub record Rule3 (owner physical : List ℕ) : Type 0 where
  pub own : (g pa p : ℕ) → g < guests → pa < physicals → at physical (physicals * g + pa) ≡ suc p → (p < pages) × (at owner p ≡ owner_guest g)
  pub different : (g pa pb p : ℕ) → g < guests → pa < physicals → pb < physicals → at physical (physicals * g + pa) ≡ suc p
      → at physical (physicals * g + pb) ≡ suc p → pa ≡ pb
  pub reached : (g p : ℕ) → g < guests → p < pages → at owner p ≡ owner_guest g → (pa : ℕ) × (pa < physicals) × (at physical (physicals * g + pa) ≡ suc p)

-- 4. Only tables have entries. An entry is at an address that is not reserved, and leads to a data page with the same owner as the table.
pub record Entry (owner kind : List ℕ) (m va p : ℕ) : Type 0 where
  pub in_table : at kind m ≡ kind_table
  pub allowed : reserved va ≡ false
  pub page : p < pages
  pub is_data : at kind p ≡ kind_data
  pub owned : at owner m < owner_guest guests
  pub same_owner : at owner p ≡ at owner m

pub record Rule4 (owner kind entry : List ℕ) : Type 0 where
  pub entries : (m va p : ℕ) → m < pages → va < addresses → at entry (addresses * m + va) ≡ suc p → Entry owner kind m va p

-- 5. Each guest's current table is registered at the physical address that names it, is a table, and is owned by that guest.
pub record Registered (owner kind physical : List ℕ) (g pa m : ℕ) : Type 0 where
  pub page : m < pages
  pub registered : at physical (physicals * g + pa) ≡ suc m
  pub is_table : at kind m ≡ kind_table
  pub own : at owner m ≡ owner_guest g

pub record Rule5 (owner kind physical current : List ℕ) : Type 0 where
  pub in_range : (g : ℕ) → g < guests → at current g < physicals
  pub currents : (g : ℕ) → g < guests → (m : ℕ) × Registered owner kind physical g (at current g) m

-- 6. A data page that is mapped at two different addresses, by one table or by several, is not cacheable. A page that a table maps at 7 is
-- cacheable.
pub record Rule6 (kind cacheable entry : List ℕ) : Type 0 where
  pub shared : (p m n va vb : ℕ) → p < pages → at kind p ≡ kind_data → Maps kind entry m va p → Maps kind entry n vb p → va ≢ vb → at cacheable p ≢ 1
  pub stealthy : (p m : ℕ) → p < pages → Maps kind entry m stealth p → at cacheable p ≡ 1

-- 7. A line lies in the set of its address. Its page is data and cacheable, and some table maps the line's address to it. No key stands twice in
-- the cache.
pub record Line (kind cacheable entry : List ℕ) (i va p : ℕ) : Type 0 where
  pub address : va < addresses
  pub in_set : set_of va ≡ i / ways
  pub page : p < pages
  pub is_cacheable : at cacheable p ≡ 1
  pub is_data : at kind p ≡ kind_data
  pub mapped : (m : ℕ) × Maps kind entry m va p

pub record Rule7 (kind cacheable entry line_address line_page : List ℕ) : Type 0 where
  pub line : (i p : ℕ) → i < lines → at line_page i ≡ suc p → Line kind cacheable entry i (at line_address i) p
  pub once : (i j p : ℕ) → i < lines → j < lines → at line_page i ≡ suc p → at line_page j ≡ suc p → at line_address i ≡ at line_address j → i ≡ j

-- 8. A TLB entry lies in the slot of its address, and the table in force maps that address to the entry's page.
-- Here and in 9 that table is m.
pub record Agrees (entry : List ℕ) (m i va p : ℕ) : Type 0 where
  pub address : va < addresses
  pub in_slot : slot_of va ≡ i
  pub page : p < pages
  pub in_force : m < pages
  pub holds : at entry (addresses * m + va) ≡ suc p

pub record Rule8 (entry slot_address slot_page : List ℕ) (m : ℕ) : Type 0 where
  pub agrees : (i p : ℕ) → i < slots → at slot_page i ≡ suc p → Agrees entry m i (at slot_address i) p

-- 9. If the table in force maps 7 to a page, way 0 of set 7 holds the line of 7 and that page, and the rest of the set is empty. If it does not,
-- set 7 is empty. The history of set 7 is 0.
pub record Leads (entry : List ℕ) (m va p : ℕ) : Type 0 where
  pub page : p < pages
  pub in_force : m < pages
  pub holds : at entry (addresses * m + va) ≡ suc p

pub record Rule9 (entry line_address line_page history : List ℕ) (m : ℕ) : Type 0 where
  pub held : (p : ℕ) → Leads entry m stealth p → (at line_page stealth_line ≡ suc p) × (at line_address stealth_line ≡ stealth)
  pub empty : ((p : ℕ) → Leads entry m stealth p → ⊥) → at line_page stealth_line ≡ 0
  pub alone : (w : ℕ) → 1 ≤ w → w < ways → at line_page (line_at stealth_set w) ≡ 0
  pub begun : at history stealth_set ≡ start

-- 10. Every number is in its range, and an empty place holds zeros: a physical address that is not registered, a place without an entry, an empty
-- way with its address and value, an empty slot with its address, and each argument that a guest's call does not use, both where it has no call.
abbrev pub Below : List ℕ → ℕ → ℕ → Type 0
Below l n b = (i : ℕ) → i < n → at l i < b

pub record PagesIn (p : Pages) : Type 0 where
  pub owner : Below p.owner pages (owner_guest guests)
  pub kind : Below p.kind pages (suc kind_table)
  pub cacheable : Below p.cacheable pages marks_bound
  pub entry : Below p.entry (pages * addresses) (suc pages)
  pub physical : Below p.physical (guests * physicals) (suc pages)
  pub free : p.free < 2 ^ pages

pub record GuestsIn (g : Guests) : Type 0 where
  pub current : Below g.current guests physicals
  pub call : Below g.call guests calls
  pub call_a : Below g.call_a guests call_a_bound
  pub call_b : Below g.call_b guests call_b_bound
  pub arguments : (i : ℕ) → i < guests → Fits (at g.call i) (at g.call_a i) (at g.call_b i)
  pub active : g.active < guests
  pub mode : g.mode < suc running

pub record CacheIn (c : Cache) (value : List ℕ) : Type 0 where
  pub line_address : Below c.line_address lines addresses
  pub line_page : Below c.line_page lines (suc pages)
  pub history : Below c.history sets histories
  pub empty : (i : ℕ) → i < lines → at c.line_page i ≡ 0 → (at c.line_address i ≡ 0) × (at value i ≡ 0)

pub record TlbIn (t : Tlb) : Type 0 where
  pub slot_address : Below t.slot_address slots addresses
  pub slot_page : Below t.slot_page slots (suc pages)
  pub empty : (i : ℕ) → i < slots → at t.slot_page i ≡ 0 → at t.slot_address i ≡ 0

pub record ValuesIn (v : Values) : Type 0 where
  pub memory : Below v.memory pages value_bound
  pub line : Below v.line lines value_bound

pub record Rule10 (s : State) : Type 0 where
  pub pages : PagesIn s.shape.pages
  pub guests : GuestsIn s.shape.guests
  pub cache : CacheIn s.shape.cache s.values.line
  pub tlb : TlbIn s.shape.tlb
  pub values : ValuesIn s.values
  pub policy : s.shape.policy < policies

-- 11. Under write-through the value of each line is the value that its page has in memory.
pub record Rule11 (line_page memory line : List ℕ) (policy : ℕ) : Type 0 where
  pub same : policy ≡ write_through → (i p : ℕ) → i < lines → p < pages → at line_page i ≡ suc p → at line i ≡ at memory p

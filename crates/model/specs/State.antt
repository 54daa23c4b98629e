-- docs/HOST.md, "Sizes and state": the state as flat lists of numbers, and what is read from it.
-- Assumes nothing.
use Rattle.std.specs.Prelude.{Bool, ◌&&◌, List, ℕ, zero, suc, ◌+◌, ◌*◌, ◌/◌, ◌%◌, ltb, eqb}
use Rattle.laws.specs.Choice.{pick, at}
use Rattle.laws.specs.Search.{first_below, some_in}
use Rattle.model.specs.Sizes.{physicals, pages, addresses, ways, lines, set_of, stealth_set}
use Rattle.model.specs.Names.{kind_table, write_through}

-- ---- the state

-- A physical address, an entry, a line and a TLB slot each hold the page plus one, or 0 for none.
pub record Pages : Type 0 where
  pub owner : List ℕ
  pub kind : List ℕ
  pub cacheable : List ℕ  -- 1 or 0
  pub entry : List ℕ  -- of table m at address va: place addresses * m + va
  pub physical : List ℕ  -- of guest g at address pa: place physicals * g + pa
  pub free : ℕ  -- bit n marks page n

pub record Guests : Type 0 where
  pub current : List ℕ  -- of each guest, a physical address
  pub call : List ℕ  -- of each guest, 0 for none
  pub call_a : List ℕ
  pub call_b : List ℕ
  pub active : ℕ
  pub mode : ℕ

-- Way w of set k is line ways * k + w.
pub record Cache : Type 0 where
  pub line_address : List ℕ
  pub line_page : List ℕ
  pub history : List ℕ

pub record Tlb : Type 0 where
  pub slot_address : List ℕ
  pub slot_page : List ℕ

-- all of the state but its values: what checks, keys, marks and histories are about
pub record Shape : Type 0 where
  pub pages : Pages
  pub guests : Guests
  pub cache : Cache
  pub tlb : Tlb
  pub policy : ℕ  -- of writes

-- the values of the pages in memory, and of the cache's lines
pub record Values : Type 0 where
  pub memory : List ℕ
  pub line : List ℕ

pub record State : Type 0 where
  pub shape : Shape
  pub values : Values

-- ---- a page, or nowhere

-- Nowhere is a number past every page: what is read there is 0, and what is stored there is lost.
abbrev pub nowhere : ℕ
nowhere = pages

-- what a place that holds a page plus one leads to
abbrev pub lead : ℕ → ℕ
lead zero = nowhere
lead (suc p) = pick (ltb p pages) p nowhere

abbrev pub is_page : ℕ → Bool
is_page p = ltb p pages

-- ---- reading the shape

abbrev pub kind_of : Shape → ℕ → ℕ
kind_of h p = at h.pages.kind p

abbrev pub is_cacheable : Shape → ℕ → Bool
is_cacheable h p = eqb (at h.pages.cacheable p) 1

abbrev pub active : Shape → ℕ
active h = h.guests.active

abbrev pub is_through : Shape → Bool
is_through h = eqb h.policy write_through

-- the page to which table m leads from va
abbrev pub page_from : Shape → ℕ → ℕ → ℕ
page_from h m va = lead (at h.pages.entry (addresses * m + va))

-- the page at guest g's physical address pa
abbrev pub page_at : Shape → ℕ → ℕ → ℕ
page_at h g pa = lead (at h.pages.physical (physicals * g + pa))

-- guest g's current table, or nowhere: the address must be in range, and the page there a table
abbrev pub table_at : List ℕ → List ℕ → ℕ → ℕ → ℕ
table_at kind physical g pa =
    pick (ltb pa physicals && eqb (at kind (lead (at physical (physicals * g + pa)))) kind_table) (lead (at physical (physicals * g + pa))) nowhere

-- the table in force: the active guest's current table
unfoldable pub table : Shape → ℕ
table h = table_at h.pages.kind h.pages.physical (active h) (at h.guests.current (active h))

-- the page to which the table in force leads from va
abbrev pub mapped : Shape → ℕ → ℕ
mapped h va = page_from h (table h) va

-- the page at the active guest's physical address pa
abbrev pub here : Shape → ℕ → ℕ
here h pa = page_at h (active h) pa

-- some table maps page p at an address that passes the test
unfoldable pub maps_page : List ℕ → List ℕ → (ℕ → Bool) → ℕ → Bool
maps_page kind entry t p = some_in (λ i e. eqb e (suc p) && t (i % addresses) && eqb (at kind (i / addresses)) kind_table) entry

abbrev pub is_mapped : Shape → (ℕ → Bool) → ℕ → Bool
is_mapped h t p = maps_page h.pages.kind h.pages.entry t p

-- ---- lines

-- no line: a number past every line
abbrev pub no_line : ℕ
no_line = lines

abbrev pub line_at : ℕ → ℕ → ℕ
line_at k w = ways * k + w

-- the line of the stealth page of the table in force: way 0 of its set
abbrev pub stealth_line : ℕ
stealth_line = line_at stealth_set 0

-- line i has the key (va, p)
abbrev pub has_key : Shape → ℕ → ℕ → ℕ → Bool
has_key h va p i = eqb (at h.cache.line_page i) (suc p) && eqb (at h.cache.line_address i) va

-- the way of va's set that has the key, or `ways`
unfoldable pub hit_way : Shape → ℕ → ℕ → ℕ
hit_way h va p = first_below ways (λ w. has_key h va p (line_at (set_of va) w))

-- the line with the key, or none
abbrev pub line_of : Shape → ℕ → ℕ → ℕ
line_of h va p = pick (ltb (hit_way h va p) ways) (line_at (set_of va) (hit_way h va p)) no_line

-- the first line of the page, whatever its address, or none
unfoldable pub line_of_page : Shape → ℕ → ℕ
line_of_page h p = first_below lines (λ i. eqb (at h.cache.line_page i) (suc p))

-- ---- a page's present value: its cache line's, whatever the line's address, else memory's. A page not cacheable has no line.

unfoldable pub present : State → ℕ → ℕ
present s p =
    pick (ltb (line_of_page s.shape p) lines) (at s.values.line (line_of_page s.shape p)) (at s.values.memory p)

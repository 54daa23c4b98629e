-- docs/HOST.md, "Sizes and state": the fresh machine.
-- Assumes nothing.
use Rattle.std.specs.Prelude.{ℕ, suc, ◌*◌, ◌-◌, ◌/◌, ◌%◌, ◌^◌, ltb, eqb, replicate}
use Rattle.laws.specs.Choice.{pick}
use Rattle.laws.specs.Search.{list_of}
use Rattle.model.specs.Sizes.{guests, physicals, pages, addresses, first_host_page, first_free_page, lines, sets, slots}
use Rattle.model.specs.Names.{owner_none, owner_host, owner_guest, kind_none, kind_data, kind_table, running, write_back}
use Rattle.model.specs.State.{Pages, Guests, Cache, Tlb, State}
use Rattle.model.specs.History.{start}

-- Guest g owns page g; the host's pages follow; the rest are free.
abbrev pub fresh_owner : ℕ → ℕ
fresh_owner p = pick (ltb p first_host_page) (owner_guest p) (pick (ltb p first_free_page) owner_host owner_none)

-- A guest's page is an empty table, the host's are data.
abbrev pub fresh_kind : ℕ → ℕ
fresh_kind p = pick (ltb p first_host_page) kind_table (pick (ltb p first_free_page) kind_data kind_none)

-- Page g stands at guest g's physical 0.
abbrev pub fresh_physical : ℕ → ℕ
fresh_physical i = pick (eqb (i % physicals) 0) (suc (i / physicals)) 0

unfoldable pub fresh_pages : Pages
fresh_pages =
    record {
      owner = list_of pages fresh_owner;
      kind = list_of pages fresh_kind;
      cacheable = replicate pages 1;
      entry = replicate (pages * addresses) 0;
      physical = list_of (guests * physicals) fresh_physical;
      free = 2 ^ pages - 2 ^ first_free_page;
    }

-- Physical 0 is each guest's current table. Calls are empty. Guest 0 is active and running.
unfoldable pub fresh_guests : Guests
fresh_guests =
    record {
      current = replicate guests 0;
      call = replicate guests 0;
      call_a = replicate guests 0;
      call_b = replicate guests 0;
      active = 0;
      mode = running;
    }

-- Cache and TLB are empty, histories at their start.
unfoldable pub fresh_cache : Cache
fresh_cache = record { line_address = replicate lines 0; line_page = replicate lines 0; history = replicate sets start }

abbrev pub empty_tlb : Tlb
empty_tlb = record { slot_address = replicate slots 0; slot_page = replicate slots 0 }

-- The policy is the one that is asked for, and write-back unless one is.
unfoldable pub fresh_with : ℕ → State
fresh_with p =
    record {
      shape = record { pages = fresh_pages; guests = fresh_guests; cache = fresh_cache; tlb = empty_tlb; policy = p };
      values = record { memory = replicate pages 0; line = replicate lines 0 };
    }

abbrev pub fresh : State
fresh = fresh_with write_back

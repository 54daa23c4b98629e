-- docs/HOST.md, "Steps": the small parts that steps are made of.
-- Each part gives the whole anew and has its choices inside fields, so that what it leaves alone is the same by computation. Where nothing is
-- to happen, the place is one past the end.
-- Assumes nothing.
use Rattle.std.specs.Prelude.{List, ℕ, suc, ◌+◌, ◌*◌, ltb, eqb, set}
use Rattle.laws.specs.Choice.{pick, at}
use Rattle.laws.specs.Search.{first_below, list_of}
use Rattle.model.specs.Sizes.{addresses, ways, lines, slots, slot_of, stealth}
use Rattle.model.specs.State.{Pages, Guests, Cache, Tlb, Shape, State, active, lead, is_page, mapped, no_line, line_at, stealth_line, present}
use Rattle.model.specs.History.{oldest}
use Rattle.model.specs.Fresh.{empty_tlb}

-- ---- one field anew

abbrev pub with_pages : Shape → Pages → Shape
with_pages h p = record { pages = p; guests = h.guests; cache = h.cache; tlb = h.tlb; policy = h.policy }

abbrev pub with_guests : Shape → Guests → Shape
with_guests h g = record { pages = h.pages; guests = g; cache = h.cache; tlb = h.tlb; policy = h.policy }

abbrev pub with_cache : Shape → Cache → Shape
with_cache h c = record { pages = h.pages; guests = h.guests; cache = c; tlb = h.tlb; policy = h.policy }

abbrev pub with_tlb : Shape → Tlb → Shape
with_tlb h t = record { pages = h.pages; guests = h.guests; cache = h.cache; tlb = t; policy = h.policy }

-- what no action does
abbrev pub with_policy : Shape → ℕ → Shape
with_policy h p = record { pages = h.pages; guests = h.guests; cache = h.cache; tlb = h.tlb; policy = p }

-- a part of a step that touches no value
abbrev pub shaped : State → Shape → State
shaped s h = record { shape = h; values = s.values }

-- ---- pages

-- table m holds e at va
abbrev pub set_entry : Shape → ℕ → ℕ → ℕ → Shape
set_entry h m va e =
    with_pages h
    (record {
      owner = h.pages.owner;
      kind = h.pages.kind;
      cacheable = h.pages.cacheable;
      entry = set h.pages.entry (addresses * m + va) e;
      physical = h.pages.physical;
      free = h.pages.free;
    })

-- page p loses its cacheable mark
abbrev pub lose_mark : Shape → ℕ → Shape
lose_mark h p =
    with_pages h
    (record {
      owner = h.pages.owner;
      kind = h.pages.kind;
      cacheable = set h.pages.cacheable p 0;
      entry = h.pages.entry;
      physical = h.pages.physical;
      free = h.pages.free;
    })

-- ---- guests

-- guest g's pending call is c with a and b
abbrev pub set_call : Shape → ℕ → ℕ → ℕ → ℕ → Shape
set_call h g c a b =
    with_guests h
    (record {
      current = h.guests.current;
      call = set h.guests.call g c;
      call_a = set h.guests.call_a g a;
      call_b = set h.guests.call_b g b;
      active = h.guests.active;
      mode = h.guests.mode;
    })

abbrev pub clear_call : Shape → Shape
clear_call h = set_call h (active h) 0 0 0

abbrev pub set_mode : Shape → ℕ → Shape
set_mode h m =
    with_guests h
    (record {
      current = h.guests.current;
      call = h.guests.call;
      call_a = h.guests.call_a;
      call_b = h.guests.call_b;
      active = h.guests.active;
      mode = m;
    })

abbrev pub set_active : Shape → ℕ → Shape
set_active h g =
    with_guests h
    (record {
      current = h.guests.current;
      call = h.guests.call;
      call_a = h.guests.call_a;
      call_b = h.guests.call_b;
      active = g;
      mode = h.guests.mode;
    })

-- the active guest's current table is that at pa
abbrev pub set_current : Shape → ℕ → Shape
set_current h pa =
    with_guests h
    (record {
      current = set h.guests.current (active h) pa;
      call = h.guests.call;
      call_a = h.guests.call_a;
      call_b = h.guests.call_b;
      active = h.guests.active;
      mode = h.guests.mode;
    })

-- ---- the TLB

-- slot i holds va and e
abbrev pub set_slot : Shape → ℕ → ℕ → ℕ → Shape
set_slot h i va e = with_tlb h (record { slot_address = set h.tlb.slot_address i va; slot_page = set h.tlb.slot_page i e })

-- the TLB slot gets the pair
abbrev pub translate : Shape → ℕ → ℕ → Shape
translate h va p = set_slot h (slot_of va) va (suc p)

-- the TLB entry for va goes, if the slot holds va
abbrev pub forget : Shape → ℕ → Shape
forget h va = set_slot h (pick (eqb (at h.tlb.slot_address (slot_of va)) va) (slot_of va) slots) 0 0

abbrev pub emptied : Shape → Shape
emptied h = with_tlb h empty_tlb

-- ---- lines

-- line i has the address va and holds e
abbrev pub set_line : Shape → ℕ → ℕ → ℕ → Shape
set_line h i va e =
    with_cache h
    (record {
      line_address = set h.cache.line_address i va;
      line_page = set h.cache.line_page i e;
      history = h.cache.history;
    })

-- the history of set k is x
abbrev pub set_history : Shape → ℕ → ℕ → Shape
set_history h k x =
    with_cache h
    (record {
      line_address = h.cache.line_address;
      line_page = h.cache.line_page;
      history = set h.cache.history k x;
    })

-- Taking a line out writes its value to memory first and leaves the history.
unfoldable pub take_out : State → ℕ → State
take_out s i =
    record {
      shape = set_line s.shape i 0 0;
      values =
          record {
            memory = set s.values.memory (lead (at s.shape.cache.line_page i)) (at s.values.line i);
            line = set s.values.line i 0;
          };
    }

-- 0 at each line of page p, as it was at the others
abbrev pub cleared : List ℕ → ℕ → List ℕ → List ℕ
cleared line_page p l = list_of lines (λ i. pick (eqb (at line_page i) (suc p)) 0 (at l i))

-- Every line of page p is taken out.
unfoldable pub take_out_page : State → ℕ → State
take_out_page s p =
    record {
      shape =
          with_cache s.shape
          (record {
            line_address = cleared s.shape.cache.line_page p s.shape.cache.line_address;
            line_page = cleared s.shape.cache.line_page p s.shape.cache.line_page;
            history = s.shape.cache.history;
          });
      values =
          record {
            memory = set s.values.memory p (present s p);
            line = cleared s.shape.cache.line_page p s.values.line;
          };
    }

-- The line (va, p) enters line i, from memory as it then stands.
unfoldable pub enter : State → ℕ → ℕ → ℕ → State
enter s i va p =
    record {
      shape = set_line s.shape i va (suc p);
      values = record { memory = s.values.memory; line = set s.values.line i (at s.values.memory p) };
    }

-- The way for a line that enters set k: the lower empty one; if none, the way the history names.
unfoldable pub way_for : Shape → ℕ → ℕ
way_for h k =
    let w = first_below ways (λ w. eqb (at h.cache.line_page (line_at k w)) 0) in
    pick (ltb w ways) w (oldest (at h.cache.history k))

-- ---- the stealth line, on a change of the table in force

-- the line of set 7 taken out
abbrev pub save_stealth : State → State
save_stealth s = take_out s stealth_line

-- the new table's page at 7, if any, enters set 7; the TLB is emptied
unfoldable pub load_stealth : State → State
load_stealth s =
    let p = mapped s.shape stealth in
    let t = enter s (pick (is_page p) stealth_line no_line) stealth p in
    shaped t (emptied t.shape)

-- What rules 1, 2, 3, 5 and 6 test at one place of a state. A place's number is the model's.
-- Assumes nothing.
use Rattle.std.specs.Prelude.{Bool, ◌&&◌, ◌||◌, not, Option, Some, None, ℕ, zero, suc, ◌+◌, ◌*◌, ◌/◌, ◌%◌, ltb, leb, eqb}
use Rattle.std.specs.Bool.{beq}
use Rattle.laws.specs.Choice.{at, ◌⇒◌}
use Rattle.laws.specs.Bits.{marks}
use Rattle.laws.specs.Search.{some_below, all_below}
use Rattle.model.specs.Sizes.{guests, physicals, addresses, stealth, first_host_page, first_free_page}
use Rattle.model.specs.Names.{owner_none, owner_host, owner_guest, kind_none, kind_data, kind_table, running}
use Rattle.model.specs.State.{State, lead, is_page}
use Rattle.model.specs.RuleTests.{leads_to, stored, fits}
use Rattle.numbers.specs.declared.Guest.{Guest}
use Rattle.numbers.specs.Lead.{lead_of, leads_at}

-- the guest that an owner's number stands for, there or not
abbrev pub guest_of : ℕ → Option Guest
guest_of zero = None
guest_of (suc zero) = None
guest_of (suc (suc g)) = Some (record { 0 = g })

-- 3, at a physical address: the page there is the guest's, and stands at no other of its addresses
unfoldable pub held_by : State → ℕ → ℕ → ℕ → Bool
held_by s g a p =
    eqb (at s.shape.pages.owner p) (owner_guest g)
    && not (some_below physicals (λ i. not (leads_at (lead_of (at s.shape.pages.physical (physicals * g + i))) p ⇒ eqb a i)))

unfoldable pub held_once : State → ℕ → Bool
held_once s i = leads_to (at s.shape.pages.physical (physicals * (i / physicals) + i % physicals)) (held_by s (i / physicals) (i % physicals))

-- 3, at a page: a guest that owns it has it at some address
unfoldable pub registered_at : State → ℕ → Bool
registered_at s p =
    all_below guests (λ g. eqb (at s.shape.pages.owner p) (owner_guest g)
    ⇒ some_below physicals (λ pa. leads_at (lead_of (at s.shape.pages.physical (physicals * g + pa))) p))

-- 5, at a guest: its current table is a table of its own
unfoldable pub current_table : State → ℕ → Bool
current_table s g =
    let P = s.shape.pages in
    let a = at s.shape.guests.current g in
    ltb a physicals
    && is_page (lead (at P.physical (physicals * g + a)))
    && eqb (at P.kind (lead (at P.physical (physicals * g + a)))) kind_table
    && eqb (at P.owner (lead (at P.physical (physicals * g + a)))) (owner_guest g)

-- 6, at a page as a table: what it maps at the stealth address is cacheable
unfoldable pub stealth_cacheable : State → ℕ → Bool
stealth_cacheable s m =
    let p = lead (at s.shape.pages.entry (addresses * m + stealth)) in
    eqb (at s.shape.pages.kind m) kind_table && is_page p ⇒ eqb (at s.shape.pages.cacheable p) 1

-- 1, at a guest
unfoldable pub call_kept : State → ℕ → Bool
call_kept s g =
    let G = s.shape.guests in
    (eqb g G.active && eqb G.mode running ⇒ not (stored (at G.call g)))
    && (stored (at G.call g) ⇒ fits (at G.call g) (at G.call_a g) (at G.call_b g))

-- 2, at a page of owner o, kind k, mark c, value v, that is free or not
unfoldable pub page_of : ℕ → ℕ → ℕ → ℕ → ℕ → Bool → Bool
page_of p o k c v free =
    beq (leb first_host_page p && ltb p first_free_page) (eqb o owner_host) && (eqb o owner_host ⇒ eqb k kind_data && eqb c 1 && eqb v 0)
    && (eqb o owner_none ⇒ eqb k kind_none && eqb c 1 && eqb v 0)
    && beq free (eqb o owner_none)
    && (leb (owner_guest 0) o && ltb o (owner_guest guests) ⇒ eqb k kind_data || eqb k kind_table)
    && (eqb k kind_table ⇒ eqb c 1 && eqb v 0)

unfoldable pub page_kept : State → ℕ → Bool
page_kept s p =
    let P = s.shape.pages in
    page_of p (at P.owner p) (at P.kind p) (at P.cacheable p) (at s.values.memory p) (marks P.free p)

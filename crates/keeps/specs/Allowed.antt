-- What allows an action, said in the positive: the preconditions of docs/HOST.md, "Records and answers", one named field for each.
-- Assumes nothing.
use Rattle.std.specs.Prelude.{◌≡◌, ◌≢◌, List, ℕ, suc, ◌+◌, ◌*◌, ◌<◌}
use Rattle.laws.specs.Choice.{at}
use Rattle.laws.specs.Bits.{bit}
use Rattle.model.specs.Sizes.{physicals, pages, addresses, first_reserved, stealth, stealth_set, set_of}
use Rattle.model.specs.Names.{running, waiting, kind_data, kind_table}
use Rattle.model.specs.State.{Shape, State, active, table}
use Rattle.model.specs.Records.{Action, silent, read, read_hyper, write, write_hyper, new, new_sm, del, switch, lswitch, hcall, ret_ctrl, chmod, pin, unpin, drop, InRange, encode, call_new, call_del, call_lswitch, call_pin, call_unpin}
use Rattle.model.specs.Rules.{Maps}
use Rattle.model.specs.Valid.{Valid}

-- ---- words

-- the active guest's pending call is exactly this one
pub record Pending (h : Shape) (c a b : ℕ) : Type 0 where
  pub call : at h.guests.call (active h) ≡ c
  pub call_a : at h.guests.call_a (active h) ≡ a
  pub call_b : at h.guests.call_b (active h) ≡ b

-- guest g has no pending call
abbrev pub Idle : Shape → ℕ → Type 0
Idle h g = at h.guests.call g ≡ 0

-- guest g has a pending call
abbrev pub HasCall : Shape → ℕ → Type 0
HasCall h g = at h.guests.call g ≢ 0

-- the address is not reserved: below the host's, and outside the stealth set unless it is the stealth address
pub record Unreserved (va : ℕ) : Type 0 where
  pub below : va < first_reserved
  pub apart : set_of va ≡ stealth_set → va ≡ stealth

-- page p is registered at the active guest's physical address pa
pub record At (h : Shape) (pa p : ℕ) : Type 0 where
  pub page : p < pages
  pub registered : at h.pages.physical (physicals * active h + pa) ≡ suc p

-- some table maps va to page p
abbrev pub MapsTo : Shape → ℕ → ℕ → Type 0
MapsTo h va p = (m : ℕ) × Maps h.pages.kind h.pages.entry m va p

-- the current table maps va to page p
abbrev pub Leads : Shape → ℕ → ℕ → Type 0
Leads h va p = Maps h.pages.kind h.pages.entry (table h) va p

-- ---- actions

-- read and write, in the mode that they need
pub record Access (h : Shape) (mode va : ℕ) : Type 0 where
  pub in_mode : h.guests.mode ≡ mode
  pub unreserved : Unreserved va
  pub page : ℕ
  pub is_page : page < pages
  pub maps : Leads h va page

pub record AllowsNew (h : Shape) (va pa : ℕ) : Type 0 where
  pub waits : h.guests.mode ≡ waiting
  pub pending : Pending h call_new va pa
  pub unreserved : Unreserved va
  pub not_stealth : va ≢ stealth
  pub page : ℕ
  pub there : At h pa page
  pub is_data : at h.pages.kind page ≡ kind_data
  pub not_hidden : MapsTo h stealth page → ⊥

pub record AllowsNewSm (h : Shape) (pa : ℕ) : Type 0 where
  pub waits : h.guests.mode ≡ waiting
  pub pending : Pending h call_new stealth pa
  pub page : ℕ
  pub there : At h pa page
  pub is_data : at h.pages.kind page ≡ kind_data
  pub is_cacheable : at h.pages.cacheable page ≡ 1
  pub not_elsewhere : (va : ℕ) → MapsTo h va page → va ≡ stealth
  pub unmapped : (p : ℕ) → p < pages → Leads h stealth p → ⊥

pub record AllowsDel (h : Shape) (va : ℕ) : Type 0 where
  pub waits : h.guests.mode ≡ waiting
  pub pending : Pending h call_del va 0
  pub unreserved : Unreserved va
  pub page : ℕ
  pub is_page : page < pages
  pub mapped : Leads h va page

pub record AllowsSwitch (h : Shape) (g : ℕ) : Type 0 where
  pub waits : h.guests.mode ≡ waiting
  pub idle : Idle h g

pub record AllowsLswitch (h : Shape) (pa : ℕ) : Type 0 where
  pub waits : h.guests.mode ≡ waiting
  pub pending : Pending h call_lswitch pa 0
  pub page : ℕ
  pub there : At h pa page
  pub is_table : at h.pages.kind page ≡ kind_table

pub record AllowsChmod (h : Shape) : Type 0 where
  pub waits : h.guests.mode ≡ waiting
  pub idle : Idle h (active h)

pub record AllowsPin (h : Shape) (pa k : ℕ) : Type 0 where
  pub waits : h.guests.mode ≡ waiting
  pub pending : Pending h call_pin pa k
  pub unused : (p : ℕ) → At h pa p → ⊥
  pub free : ℕ
  pub is_page : free < pages
  pub marked : bit h.pages.free free ≡ 1

pub record AllowsUnpin (h : Shape) (pa : ℕ) : Type 0 where
  pub waits : h.guests.mode ≡ waiting
  pub pending : Pending h call_unpin pa 0
  pub page : ℕ
  pub there : At h pa page
  pub not_current : pa ≢ at h.guests.current (active h)
  pub no_entries : (va : ℕ) → va < addresses → at h.pages.entry (addresses * page + va) ≡ 0
  pub unmapped : (va : ℕ) → MapsTo h va page → ⊥

pub record AllowsDrop (h : Shape) (g : ℕ) : Type 0 where
  pub waits : h.guests.mode ≡ waiting
  pub calls : HasCall h g

abbrev pub Allowed : Shape → Action → Type 0
Allowed h silent = Unit {0}
Allowed h (read va) = Access h running va
Allowed h (read_hyper va) = Access h waiting va
Allowed h (write va v) = Access h running va
Allowed h (write_hyper va v) = Access h waiting va
Allowed h (new va pa) = AllowsNew h va pa
Allowed h (new_sm pa) = AllowsNewSm h pa
Allowed h (del va) = AllowsDel h va
Allowed h (switch g) = AllowsSwitch h g
Allowed h (lswitch pa) = AllowsLswitch h pa
Allowed h (hcall c a b) = h.guests.mode ≡ running
Allowed h ret_ctrl = h.guests.mode ≡ running
Allowed h chmod = AllowsChmod h
Allowed h (pin pa k) = AllowsPin h pa k
Allowed h (unpin pa) = AllowsUnpin h pa
Allowed h (drop g) = AllowsDrop h g

-- ---- any bytes on any state

-- the state is valid, and the bytes are the record of an action in range that is allowed
pub record Accepts (s : State) (l : List ℕ) : Type 0 where
  pub valid : Valid s
  pub action : Action
  pub in_range : InRange action
  pub encoded : encode action ≡ l
  pub allowed : Allowed s.shape action

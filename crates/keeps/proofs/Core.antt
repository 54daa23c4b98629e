-- What of a valid state does not turn on the table in force: all but rules 8 and 9. Steps that change that table pass through such states.
-- Assumes nothing.
use mathlib.Core.Path.{◌≡◌, refl, sym, ap, ◌∙◌, subst}
use Prim.Native.Nat.{ℕ, zero, suc, ◌+◌, ◌*◌, ◌-◌, ◌≤◌, ◌<◌}
use native.Mathlib.Omega.{arith}
use borrow.Author.Tests.{lt-ltb, eq-eqb}
use Rattle.laws.specs.Choice.{at}
use Rattle.laws.proofs.Cases.{same?}
use Rattle.model.specs.Sizes.{guests, physicals, pages, addresses, lines}
use Rattle.model.specs.Names.{owner_none, owner_host, owner_guest, kind_data, kind_table}
use Rattle.model.specs.State.{Shape, State, lead, active, table, table_at, mapped, here}
use Rattle.model.specs.Rules.{Maps, Rule1, Rule2, Rule3, Rule4, Rule5, Registered, Rule6, Rule7, Rule8, Rule9, Leads, Rule10, Rule11}
use Rattle.model.specs.Valid.{Sized, Valid}
use Rattle.model.proofs.RuleTests.{lead_page, lead_holds}

pub record Core (s : State) : Type 0 where
  pub sized : Sized s
  pub rule1 : Rule1 s.shape.guests.call s.shape.guests.call_a s.shape.guests.call_b s.shape.guests.active s.shape.guests.mode
  pub rule2 : Rule2 s.shape.pages.owner s.shape.pages.kind s.shape.pages.cacheable s.values.memory s.shape.pages.free
  pub rule3 : Rule3 s.shape.pages.owner s.shape.pages.physical
  pub rule4 : Rule4 s.shape.pages.owner s.shape.pages.kind s.shape.pages.entry
  pub rule5 : Rule5 s.shape.pages.owner s.shape.pages.kind s.shape.pages.physical s.shape.guests.current
  pub rule6 : Rule6 s.shape.pages.kind s.shape.pages.cacheable s.shape.pages.entry
  pub rule7 : Rule7 s.shape.pages.kind s.shape.pages.cacheable s.shape.pages.entry s.shape.cache.line_address s.shape.cache.line_page
  pub rule10 : Rule10 s
  pub rule11 : Rule11 s.shape.cache.line_page s.values.memory s.values.line s.shape.policy

abbrev pub Eight : Shape → Type 0
Eight h = Rule8 h.pages.entry h.tlb.slot_address h.tlb.slot_page (table h)

abbrev pub Nine : Shape → Type 0
Nine h = Rule9 h.pages.entry h.cache.line_address h.cache.line_page h.cache.history (table h)

pub core_of : {s : State} → Valid s → Core s
core_of v =
    record {
      sized = v.sized;
      rule1 = v.rule1;
      rule2 = v.rule2;
      rule3 = v.rule3;
      rule4 = v.rule4;
      rule5 = v.rule5;
      rule6 = v.rule6;
      rule7 = v.rule7;
      rule10 = v.rule10;
      rule11 = v.rule11;
    }

pub valid_of : {s : State} → Core s → Eight s.shape → Nine s.shape → Valid s
valid_of c e n =
    record {
      sized = c.sized;
      rule1 = c.rule1;
      rule2 = c.rule2;
      rule3 = c.rule3;
      rule4 = c.rule4;
      rule5 = c.rule5;
      rule6 = c.rule6;
      rule7 = c.rule7;
      rule8 = e;
      rule9 = n;
      rule10 = c.rule10;
      rule11 = c.rule11;
    }

-- ---- places and pages

-- a place that holds a page leads to it
pub lead_is : (e p : ℕ) → p < pages → e ≡ suc p → lead e ≡ p
lead_is e p h q = ap lead q ∙ lead_page p h

-- a number in range that leads to no page is 0
pub leads_nowhere_law : (e : ℕ) → e < suc pages → pages ≤ lead e → e ≡ 0
leads_nowhere_law zero h l = refl
leads_nowhere_law (suc p) h l = let z = lead_page p (omega arith) in absurd (omega arith)

-- the table in force leads to the page that its entry holds
pub mapped_is : (h : Shape) (va p : ℕ) → p < pages → at h.pages.entry (addresses * table h + va) ≡ suc p → mapped h va ≡ p
mapped_is h va p = lead_is (at h.pages.entry (addresses * table h + va)) p

-- a data page of a guest
pub record GuestData (h : Shape) (p : ℕ) : Type 0 where
  pub page : p < pages
  pub is_data : at h.pages.kind p ≡ kind_data
  pub guest : ℕ
  pub known : guest < guests
  pub owned : at h.pages.owner p ≡ owner_guest guest

-- ---- what a state of this kind has

module _ {s : State} (c : Core s) where
  -- the table in force is a registered table of the active guest
  pub in_force : Registered s.shape.pages.owner s.shape.pages.kind s.shape.pages.physical (active s.shape) (at s.shape.guests.current (active s.shape)) (table s.shape)
  unfolding table
  in_force =
      let g = active s.shape in
      let hg = c.rule10.guests.active in
      let r = c.rule5.currents g hg in
      let e = lead_is (at s.shape.pages.physical (physicals * g + at s.shape.guests.current g)) r.0 r.1.page r.1.registered in
      let t : table_at s.shape.pages.kind s.shape.pages.physical g (at s.shape.guests.current g) ≡ r.0 =
      rw (e, lt-ltb (at s.shape.guests.current g) physicals (c.rule5.in_range g hg), eq-eqb (at s.shape.pages.kind r.0) kind_table r.1.is_table) in
      subst (λ (m : ℕ). Registered s.shape.pages.owner s.shape.pages.kind s.shape.pages.physical g (at s.shape.guests.current g) m) (sym t) r.1

  -- a page of kind table is a guest's
  pub table_owner : (m : ℕ) → m < pages → at s.shape.pages.kind m ≡ kind_table → (g : ℕ) × (g < guests) × (at s.shape.pages.owner m ≡ owner_guest g)
  table_owner m h k =
      let o = at s.shape.pages.owner m in
      same? o owner_none (λ e. absurd (omega (arith, (c.rule2.ownerless m h e).0)))
      (λ n. same? o owner_host (λ e. absurd (omega (arith, (c.rule2.host m h e).0)))
      (λ z. (o - owner_guest 0, omega (arith, c.rule10.pages.owner m h), omega arith)))

  -- a page that a table maps is data of a guest
  pub mapped_page : {m va p : ℕ} → Maps s.shape.pages.kind s.shape.pages.entry m va p → GuestData s.shape p
  mapped_page {m} {va} {p} a =
      let e = c.rule4.entries m va p a.page a.address a.holds in
      let o = table_owner m a.page a.is_table in
      record { page = e.page; is_data = e.is_data; guest = o.0; known = o.1; owned = e.same_owner ∙ o.2 }

  -- so is the page of a line
  pub line_page_law : {i p : ℕ} → i < lines → at s.shape.cache.line_page i ≡ suc p → GuestData s.shape p
  line_page_law {i} {p} h e = mapped_page (c.rule7.line i p h e).mapped.1

  -- the page at a physical address of the active guest is its own
  pub here_owned : (pa : ℕ) → pa < physicals → here s.shape pa < pages
      → (at s.shape.pages.physical (physicals * active s.shape + pa) ≡ suc (here s.shape pa))
      × (at s.shape.pages.owner (here s.shape pa) ≡ owner_guest (active s.shape))
  here_owned pa h l =
      let e = lead_holds (at s.shape.pages.physical (physicals * active s.shape + pa)) l in
      (e, (c.rule3.own (active s.shape) pa (here s.shape pa) c.rule10.guests.active h e).1)

  -- the table in force leads from an address to a page, and maps it there
  pub leads_here : (va : ℕ) → mapped s.shape va < pages → Leads s.shape.pages.entry (table s.shape) va (mapped s.shape va)
  leads_here va l =
      record { page = l; in_force = in_force.page; holds = lead_holds (at s.shape.pages.entry (addresses * table s.shape + va)) l }

  pub leads_maps : {va p : ℕ} → va < addresses → Leads s.shape.pages.entry (table s.shape) va p
      → Maps s.shape.pages.kind s.shape.pages.entry (table s.shape) va p
  leads_maps h l = record { page = l.in_force; address = h; is_table = in_force.is_table; holds = l.holds }

  pub maps_here : (va : ℕ) → va < addresses → mapped s.shape va < pages
      → Maps s.shape.pages.kind s.shape.pages.entry (table s.shape) va (mapped s.shape va)
  maps_here va h l = leads_maps h (leads_here va l)

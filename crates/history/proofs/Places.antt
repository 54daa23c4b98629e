-- Where the pages of a valid state are: each in one place, all of them counted; and a page that is no data of a guest holds 0.
-- Assumes nothing.
use mathlib.Core.Path.{◌≡◌, refl, sym, ap, ap₂, ◌∙◌}
use mathlib.Core.Bool.{◌&&◌}
use mathlib.Core.Logic.{◌↔◌, ⊎_elim}
use Prim.Native.Nat.{ℕ, suc, ◌+◌, ◌-◌, ◌≤◌, ◌<◌}
use native.Mathlib.Omega.{arith}
use lib.Dec.{ltb, leb, eqb}
use lib.Count.{ones}
use Rattle.laws.specs.Choice.{at}
use Rattle.laws.specs.Bits.{bit}
use Rattle.laws.specs.Search.{count_below, sum_below}
use Rattle.laws.proofs.Cases.{same?, below?}
use Rattle.laws.proofs.Tests.{eq⇔, lt⇔, le⇔, and⇔, same_test}
use Rattle.laws.proofs.Lists.{at_past}
use Rattle.laws.proofs.Search.{count_same}
use Rattle.laws.proofs.Counts.{sum_front, sum_same, count_values}
use Rattle.laws.proofs.Bits.{ones_count}
use Rattle.model.specs.Sizes.{guests, pages, host_pages, first_host_page, first_free_page}
use Rattle.model.specs.Names.{owner_none, owner_host, owner_guest}
use Rattle.model.specs.State.{State, present}
use Rattle.model.specs.Valid.{Valid}
use Rattle.keeps.proofs.Core.{GuestData, core_of, line_page_law}
use Rattle.history.specs.Agrees.{Has}
use Rattle.history.specs.Rations.{owned, Place, free, host, guest, In, OnePlace}
use Rattle.history.proofs.Holds.{holds_present}
use Rattle.history.proofs.Charts.{has_owner, has_once}

-- the host's pages, counted
between : count_below pages (λ p. leb first_host_page p && ltb p first_free_page) ≡ host_pages
unfolding count_below
between = refl

module _ {s : State} (v : Valid s) where
  -- ---- one place

  host_owner : (p : ℕ) → p < pages → In s.shape p host ↔ (at s.shape.pages.owner p ≡ owner_host)
  host_owner p h = v.rule2.hosts p h

  free_owner : (p : ℕ) → p < pages → In s.shape p free ↔ (at s.shape.pages.owner p ≡ owner_none)
  free_owner p h = v.rule2.map p h

  pub guest_owner : (g p : ℕ) → g < guests → p < pages → (at s.shape.pages.owner p ≡ owner_guest g) ↔ ((pa : ℕ) × Has s.shape.pages.physical g pa p)
  guest_owner g p hg hp = (
    (λ e. let r = v.rule3.reached g p hg hp e in (r.0, record { guest = hg; address = r.1; holds = r.2 })),
    λ w. has_owner (core_of v) w.1,
  )

  in_free : (p : ℕ) → p < pages → at s.shape.pages.owner p ≡ owner_none → OnePlace s.shape p
  in_free p h e = record { place = free; in_it = (free_owner p h).1 e; only = only }
    where
      only : (q : Place) → In s.shape p q → q ≡ free
      only free i = refl
      only host i = absurd (omega (arith, (host_owner p h).0 i))
      only (guest g pa) i = absurd (omega (arith, has_owner (core_of v) i))

  in_host : (p : ℕ) → p < pages → at s.shape.pages.owner p ≡ owner_host → OnePlace s.shape p
  in_host p h e = record { place = host; in_it = (host_owner p h).1 e; only = only }
    where
      only : (q : Place) → In s.shape p q → q ≡ host
      only free i = absurd (omega (arith, (free_owner p h).0 i))
      only host i = refl
      only (guest g pa) i = absurd (omega (arith, has_owner (core_of v) i))

  in_guest : (p g : ℕ) → p < pages → g < guests → at s.shape.pages.owner p ≡ owner_guest g → OnePlace s.shape p
  in_guest p g h hg e = record { place = guest g there.0; in_it = there.1; only = only }
    where
      there : (pa : ℕ) × Has s.shape.pages.physical g pa p
      there = (guest_owner g p hg h).0 e

      only : (q : Place) → In s.shape p q → q ≡ guest g there.0
      only free i = absurd (omega (arith, (free_owner p h).0 i))
      only host i = absurd (omega (arith, (host_owner p h).0 i))
      only (guest k pa) i = let w = has_once (core_of v) i there.1 in ap₂ guest w.0 w.1

  pub one_place : (p : ℕ) → p < pages → OnePlace s.shape p
  one_place p h =
      let o = at s.shape.pages.owner p in
      same? o owner_none (in_free p h)
      (λ n. same? o owner_host (in_host p h)
      (λ k. in_guest p (o - owner_guest 0) h (omega (arith, v.rule10.pages.owner p h)) (omega arith)))

  -- ---- all pages

  -- how many pages have the owner o
  abbrev having : ℕ → ℕ
  having o = count_below pages (λ p. eqb (at s.shape.pages.owner p) o)

  having_none : having owner_none ≡ ones s.shape.pages.free
  having_none =
      count_same pages (λ p h. same_test (eq⇔ (at s.shape.pages.owner p) owner_none) (eq⇔ (bit s.shape.pages.free p) 1) (free_owner p h).1 (free_owner p h).0)
      ∙ sym (ones_count pages s.shape.pages.free v.rule10.pages.free)

  having_host : having owner_host ≡ host_pages
  having_host =
      count_same pages (λ p h. same_test (eq⇔ (at s.shape.pages.owner p) owner_host) (and⇔ (le⇔ first_host_page p) (lt⇔ p first_free_page)) (host_owner p h).1 (host_owner p h).0)
      ∙ between

  pub all_pages : sum_below guests (owned s.shape) + host_pages + ones s.shape.pages.free ≡ pages
  all_pages =
      let w = count_values pages (owner_guest guests) (at s.shape.pages.owner) v.rule10.pages.owner in
      let a = sum_front (suc guests) having in
      let c = sum_front guests (λ i. having (suc i)) in
      let e : sum_below guests (λ i. having (suc (suc i))) ≡ sum_below guests (owned s.shape) = sum_same guests (λ i h. ap having (omega arith)) in
      let x = having_none in
      let y = having_host in
      omega arith

  -- ---- what is no data of a guest

  memory_zero : (p : ℕ) → p < pages → (GuestData s.shape p → ⊥) → at s.values.memory p ≡ 0
  memory_zero p h n =
      let o = at s.shape.pages.owner p in
      same? o owner_none (λ e. (v.rule2.ownerless p h e).2)
      (λ a. same? o owner_host (λ e. (v.rule2.host p h e).2)
      (λ b.
      let g = o - owner_guest 0 in
      let hg : g < guests = omega (arith, v.rule10.pages.owner p h) in
      let e : o ≡ owner_guest g = omega arith in
      ⊎_elim (λ k. absurd (n (record { page = h; is_data = k; guest = g; known = hg; owned = e }))) (λ k. (v.rule2.tables p h k).1)
      (v.rule2.guest g p hg h e)))

  pub nobody_zero : (p : ℕ) → (GuestData s.shape p → ⊥) → present s p ≡ 0
  nobody_zero p n =
      holds_present s
      (record {
        in_line = λ i hi e. absurd (n (line_page_law (core_of v) hi e));
        in_memory = λ _. below? p pages (λ h. memory_zero p h n) (λ h. at_past s.values.memory p (omega (arith, v.sized.memory)));
      })

  pub host_zero : (p : ℕ) → first_host_page ≤ p → p < first_free_page → present s p ≡ 0
  host_zero p lo hi = let o = (host_owner p (omega arith)).0 (lo, hi) in nobody_zero p (λ d. omega (arith, d.owned))

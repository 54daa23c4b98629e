-- Each rule's test at a place is the model's, and so is the rule.
-- Assumes nothing.
use mathlib.Core.Path.{◌≡◌, refl, sym, ap, ◌∙◌}
use mathlib.Core.Bool.{Bool, true, ◌&&◌, not}
use Prim.Native.Nat.{ℕ, suc, ◌+◌, ◌*◌, ◌/◌, ◌%◌, ◌<◌}
use native.Mathlib.Omega.{arith}
use lib.Dec.{ltb, eqb}
use borrow.Author.Tests.{lt-ltb}
use Rattle.laws.specs.Choice.{at, ◌⇒◌}
use Rattle.laws.specs.Search.{all_below, some_below}
use Rattle.laws.proofs.Grid.{place_of}
use Rattle.laws.proofs.Loops.{all_same, some_same, all_places}
use Rattle.model.specs.Sizes.{guests, physicals, pages, addresses, lines, ways, slots, set_of, slot_of}
use Rattle.model.specs.Names.{owner_guest, kind_data}
use Rattle.model.specs.State.{State, is_page, table, maps_page}
use Rattle.model.specs.Valid.{Sized}
use Rattle.model.specs.RuleTests.{leads_to, rule3_at, rule3_at_page, rule4_at, rule7_at, rule8_at, rule3?, rule4?, rule7?, rule8?, rule11?}
use Rattle.numbers.specs.Lead.{lead_of, leads_at}
use Rattle.numbers.proofs.Leads.{leads_at_law}
use Rattle.places.specs.Places.{held_by, held_once, registered_at}
use Rattle.lines.specs.Lines.{lined_by, lined, slot_by, slotted, through}
use Rattle.entries.specs.Entries.{own_by, own_at}
use Rattle.seek.proofs.Leading.{leads_same}

module _ (s : State) where
  -- ---- 3

  abbrev holds : ℕ → ℕ → ℕ → Bool
  holds g a p = eqb (at s.shape.pages.owner p) (owner_guest g) && all_below physicals (λ i. eqb (at s.shape.pages.physical (physicals * g + i)) (suc p) ⇒ eqb a i)

  held_is : (g a p : ℕ) → p < pages → held_by s g a p ≡ holds g a p
  unfolding held_by
  held_is g a p h =
      ap (λ (b : Bool). eqb (at s.shape.pages.owner p) (owner_guest g) && not b)
      (some_same physicals (λ i l. ap (λ (b : Bool). not (b ⇒ eqb a i)) (leads_at_law (at s.shape.pages.physical (physicals * g + i)) p h)))

  pub address_is : (i : ℕ) → held_once s i ≡ rule3_at s.shape.pages.owner s.shape.pages.physical i (at s.shape.pages.physical i)
  unfolding held_once
  address_is i =
      ap (λ (k : ℕ). leads_to (at s.shape.pages.physical k) (held_by s (i / physicals) (i % physicals))) (place_of physicals (omega arith) i)
      ∙ leads_same (at s.shape.pages.physical i) (held_is (i / physicals) (i % physicals))

  pub registered_is : (p : ℕ) → p < pages → registered_at s p ≡ rule3_at_page s.shape.pages.owner s.shape.pages.physical p
  unfolding registered_at
  registered_is p h =
      all_same guests (λ g l. ap (λ (b : Bool). eqb (at s.shape.pages.owner p) (owner_guest g) ⇒ b)
      (some_same physicals (λ pa k. leads_at_law (at s.shape.pages.physical (physicals * g + pa)) p h)))

  pub rule3_is : Sized s → (all_below (guests * physicals) (held_once s) && all_below pages (registered_at s)) ≡ rule3? s.shape.pages.owner s.shape.pages.physical
  unfolding rule3?
  rule3_is size =
      let o = s.shape.pages.owner in
      let l = s.shape.pages.physical in
      ap (λ (b : Bool). all_below (guests * physicals) (held_once s) && b) (all_same pages registered_is)
      ∙ ap (λ (b : Bool). b && all_below pages (rule3_at_page o l))
      (all_same (guests * physicals) (λ i h. address_is i) ∙ sym (all_places (rule3_at o l) l (guests * physicals) size.physical))

  -- ---- 4

  pub entry_is_law : (i : ℕ) → own_at s (i / addresses) (i % addresses) ≡ rule4_at s.shape.pages.owner s.shape.pages.kind i (at s.shape.pages.entry i)
  unfolding own_at own_by
  entry_is_law i = ap (λ (k : ℕ). leads_to (at s.shape.pages.entry k) (own_by s (i / addresses) (i % addresses))) (place_of addresses (omega arith) i)

  pub rule4_is : Sized s → all_below (pages * addresses) (λ i. own_at s (i / addresses) (i % addresses)) ≡ rule4? s.shape.pages.owner s.shape.pages.kind s.shape.pages.entry
  unfolding rule4?
  rule4_is size =
      all_same (pages * addresses) (λ i h. entry_is_law i)
      ∙ sym (all_places (rule4_at s.shape.pages.owner s.shape.pages.kind) s.shape.pages.entry (pages * addresses) size.entry)

  -- ---- 7

  lined_is : (i a p : ℕ) → p < pages
      → lined_by s i a p ≡ (ltb a addresses && eqb (set_of a) (i / ways) && eqb (at s.shape.pages.cacheable p) 1 && eqb (at s.shape.pages.kind p) kind_data
      && maps_page s.shape.pages.kind s.shape.pages.entry (λ v. eqb v a) p
      && all_below lines (λ j. eqb (at s.shape.cache.line_page j) (suc p) && eqb a (at s.shape.cache.line_address j) ⇒ eqb i j))
  unfolding lined_by
  lined_is i a p h =
      let k : ℕ → Bool → Bool = λ j b. not (b && eqb a (at s.shape.cache.line_address j) ⇒ eqb i j) in
      let t : Bool → Bool → Bool = λ g n. ltb a addresses && eqb (set_of a) (i / ways) && eqb (at s.shape.pages.cacheable p) 1 && eqb (at s.shape.pages.kind p) kind_data && (g && maps_page s.shape.pages.kind s.shape.pages.entry (λ v. eqb v a) p) && not n in
      ap (λ (b : Bool). t b (some_below lines (λ j. k j (leads_at (lead_of (at s.shape.cache.line_page j)) p)))) (lt-ltb p pages h)
      ∙ ap (λ (b : Bool). t true b) (some_same lines (λ j l. ap (k j) (leads_at_law (at s.shape.cache.line_page j) p h)))

  pub line_is_law : (i : ℕ)
      → lined s i ≡ rule7_at s.shape.pages.kind s.shape.pages.cacheable s.shape.pages.entry s.shape.cache.line_address s.shape.cache.line_page i
  unfolding lined
  line_is_law i = leads_same (at s.shape.cache.line_page i) (lined_is i (at s.shape.cache.line_address i))

  pub rule7_is : all_below lines (lined s) ≡ rule7? s.shape.pages.kind s.shape.pages.cacheable s.shape.pages.entry s.shape.cache.line_address s.shape.cache.line_page
  unfolding rule7?
  rule7_is = all_same lines (λ i h. line_is_law i)

-- ---- 8

slot_by_law : (s : State) (m i a p : ℕ) → p < pages
    → slot_by s m i a p ≡ (ltb a addresses && eqb (slot_of a) i && is_page m && eqb (at s.shape.pages.entry (addresses * m + a)) (suc p))
unfolding slot_by
slot_by_law s m i a p h = ap (λ (b : Bool). ltb a addresses && eqb (slot_of a) i && is_page m && b) (leads_at_law (at s.shape.pages.entry (addresses * m + a)) p h)

pub slot_is_law : (s : State) (i : ℕ) → slotted s i ≡ rule8_at s.shape.pages.entry s.shape.tlb.slot_address s.shape.tlb.slot_page (table s.shape) i
unfolding slotted
slot_is_law s i = leads_same (at s.shape.tlb.slot_page i) (slot_by_law s (table s.shape) i (at s.shape.tlb.slot_address i))

pub rule8_is : (s : State) → all_below slots (slotted s) ≡ rule8? s.shape.pages.entry s.shape.tlb.slot_address s.shape.tlb.slot_page (table s.shape)
unfolding rule8?
rule8_is s = all_same slots (λ i h. slot_is_law s i)

-- ---- 11

pub rule11_is : (s : State)
    → all_below lines (through s) ≡ rule11? s.shape.cache.line_page s.values.memory s.values.line s.shape.policy
unfolding rule11? through
rule11_is s = refl

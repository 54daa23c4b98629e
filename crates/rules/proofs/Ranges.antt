-- Rule 10 is its tests at each place: those of the map of free pages and of the values hold of every state that comes from bytes.
-- Assumes nothing.
use mathlib.Core.Path.{◌≡◌}
use mathlib.Core.Bool.{◌&&◌}
use Prim.Native.Nat.{ℕ, suc, ◌*◌, ◌/◌, ◌%◌, ◌<◌}
use native.Mathlib.Omega.{arith}
use lib.Dec.{ltb}
use Rattle.laws.specs.Choice.{at, ◌⇔◌}
use Rattle.laws.specs.Search.{all_below}
use Rattle.laws.proofs.Tests.{eq⇔, lt⇔, and⇔, imp⇔, as⇔, agree}
use Rattle.laws.proofs.Search.{all⇔}
use Rattle.laws.proofs.Grid.{place_of}
use Rattle.model.specs.Sizes.{guests, physicals, pages, addresses, lines, sets, slots, calls, call_a_bound, call_b_bound, marks_bound, policies}
use Rattle.model.specs.Names.{owner_guest, kind_table, running}
use Rattle.model.specs.State.{State}
use Rattle.model.specs.History.{histories}
use Rattle.model.specs.Records.{row_of, kind_of_call}
use Rattle.model.specs.Rules.{Fits}
use Rattle.model.specs.RuleTests.{rule10?}
use Rattle.model.specs.Valid.{Sized}
use Rattle.model.proofs.RuleTests.{within⇔, rule10⇔}
use Rattle.host.proofs.Inverse.{Bounded}
use Rattle.ranges.specs.Ranges.{page_in_range, place_in_range, guest_in_range, line_in_range, set_in_range, slot_in_range, entry_in_range}

module _ (s : State) where
  page⇔ : (p : ℕ) → p < pages → page_in_range s p
      ⇔ (((at s.shape.pages.owner p < owner_guest guests) × (at s.shape.pages.kind p < suc kind_table)) × (at s.shape.pages.cacheable p < marks_bound))
  unfolding page_in_range
  page⇔ p h = and⇔ (and⇔ (lt⇔ (at s.shape.pages.owner p) (owner_guest guests)) (lt⇔ (at s.shape.pages.kind p) (suc kind_table))) (lt⇔ (at s.shape.pages.cacheable p) marks_bound)

  place⇔ : (i : ℕ) → i < guests * physicals → place_in_range s i ⇔ (at s.shape.pages.physical i < suc pages)
  unfolding place_in_range
  place⇔ i h = rw (place_of physicals (omega arith) i) (lt⇔ (at s.shape.pages.physical i) (suc pages))

  entry⇔ : (i : ℕ) → i < pages * addresses → entry_in_range s (i / addresses) (i % addresses) ⇔ (at s.shape.pages.entry i < suc pages)
  unfolding entry_in_range
  entry⇔ i h = rw (place_of addresses (omega arith) i) (lt⇔ (at s.shape.pages.entry i) (suc pages))

  guest⇔ : (g : ℕ) → g < guests → guest_in_range s g ⇔ ((((((at s.shape.guests.current g < physicals) × (at s.shape.guests.call g < calls)) × (at s.shape.guests.call_a g < call_a_bound))
      × (at s.shape.guests.call_b g < call_b_bound))
      × Fits (at s.shape.guests.call g) (at s.shape.guests.call_a g) (at s.shape.guests.call_b g)))
  unfolding guest_in_range
  guest⇔ g h =
      let G = s.shape.guests in
      and⇔ (and⇔ (and⇔ (and⇔ (lt⇔ (at G.current g) physicals) (lt⇔ (at G.call g) calls)) (lt⇔ (at G.call_a g) call_a_bound)) (lt⇔ (at G.call_b g) call_b_bound))
      (within⇔ (row_of (kind_of_call (at G.call g))) (at G.call_a g) (at G.call_b g))

  line⇔ : (i : ℕ) → i < lines → line_in_range s i ⇔ ((((at s.shape.cache.line_address i < addresses) × (at s.shape.cache.line_page i < suc pages))
      × (at s.shape.cache.line_page i ≡ 0 → (at s.shape.cache.line_address i ≡ 0) × (at s.values.line i ≡ 0))))
  unfolding line_in_range
  line⇔ i h =
      let C = s.shape.cache in
      and⇔ (and⇔ (lt⇔ (at C.line_address i) addresses) (lt⇔ (at C.line_page i) (suc pages)))
      (imp⇔ (eq⇔ (at C.line_page i) 0) (and⇔ (eq⇔ (at C.line_address i) 0) (eq⇔ (at s.values.line i) 0)))

  set⇔ : (k : ℕ) → k < sets → set_in_range s k ⇔ (at s.shape.cache.history k < histories)
  unfolding set_in_range
  set⇔ k h = lt⇔ (at s.shape.cache.history k) histories

  slot⇔ : (i : ℕ) → i < slots → slot_in_range s i ⇔ ((((at s.shape.tlb.slot_address i < addresses) × (at s.shape.tlb.slot_page i < suc pages))
      × (at s.shape.tlb.slot_page i ≡ 0 → at s.shape.tlb.slot_address i ≡ 0)))
  unfolding slot_in_range
  slot⇔ i h =
      let T = s.shape.tlb in
      and⇔ (and⇔ (lt⇔ (at T.slot_address i) addresses) (lt⇔ (at T.slot_page i) (suc pages))) (imp⇔ (eq⇔ (at T.slot_page i) 0) (eq⇔ (at T.slot_address i) 0))

  pub rule10_is : Sized s → Bounded s
      → (ltb s.shape.guests.active guests && ltb s.shape.guests.mode (suc running) && ltb s.shape.policy policies
      && (all_below pages (page_in_range s) && all_below (guests * physicals) (place_in_range s) && all_below guests (guest_in_range s) && all_below lines (line_in_range s) && all_below sets (set_in_range s) && all_below slots (slot_in_range s))
      && all_below (pages * addresses) (λ i. entry_in_range s (i / addresses) (i % addresses)))
      ≡ rule10? s
  rule10_is z b =
      agree
      (as⇔
      (and⇔ (and⇔ (and⇔ (and⇔ (lt⇔ s.shape.guests.active guests) (lt⇔ s.shape.guests.mode (suc running))) (lt⇔ s.shape.policy policies))
      (and⇔ (and⇔ (and⇔ (and⇔ (and⇔ (all⇔ pages page⇔) (all⇔ (guests * physicals) place⇔)) (all⇔ guests guest⇔)) (all⇔ lines line⇔)) (all⇔ sets set⇔)) (all⇔ slots slot⇔)))
      (all⇔ (pages * addresses) entry⇔))
      (λ w.
      let q = w.0.1 in
      let p = q.0.0.0.0.0 in
      let g = q.0.0.0.1 in
      let l = q.0.0.1 in
      let t = q.1 in
      record {
        pages = record { owner = λ i h. (p i h).0.0; kind = λ i h. (p i h).0.1; cacheable = λ i h. (p i h).1; entry = w.1; physical = q.0.0.0.0.1; free = b.free };
        guests =
            record {
              current = λ i h. (g i h).0.0.0.0;
              call = λ i h. (g i h).0.0.0.1;
              call_a = λ i h. (g i h).0.0.1;
              call_b = λ i h. (g i h).0.1;
              arguments = λ i h. (g i h).1;
              active = w.0.0.0.0;
              mode = w.0.0.0.1;
            };
        cache = record { line_address = λ i h. (l i h).0.0; line_page = λ i h. (l i h).0.1; history = q.0.1; empty = λ i h. (l i h).1 };
        tlb = record { slot_address = λ i h. (t i h).0.0; slot_page = λ i h. (t i h).0.1; empty = λ i h. (t i h).1 };
        values = record { memory = λ i h. b.memory i; line = λ i h. b.line i };
        policy = w.0.0.1;
      })
      (λ w.
      let P = w.pages in
      let G = w.guests in
      let C = w.cache in
      let T = w.tlb in (
        (
          ((G.active, G.mode), w.policy),
          (
            (
              (
                (
                  ((λ i h. ((P.owner i h, P.kind i h), P.cacheable i h)), P.physical),
                  (λ i h. ((((G.current i h, G.call i h), G.call_a i h), G.call_b i h), G.arguments i h)),
                ),
                (λ i h. ((C.line_address i h, C.line_page i h), C.empty i h)),
              ),
              C.history,
            ),
            (λ i h. ((T.slot_address i h, T.slot_page i h), T.empty i h)),
          ),
        ),
        P.entry,
      )))
      (rule10⇔ s z)

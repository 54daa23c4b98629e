-- A slot of the TLB that gets a pair or is emptied, and the TLB emptied. One argument for all: rule 8 can break only by what is stored.
-- Assumes nothing.
use mathlib.Core.Path.{◌≡◌, refl, sym, ap, ◌∙◌}
use mathlib.Core.Logic.{◌≢◌}
use mathlib.Core.List.{List}
use Prim.Native.Nat.{ℕ, suc, ◌<◌}
use native.Mathlib.Omega.{arith}
use lib.Dec.{eqb}
use lib.ListN.{length, set, replicate, length-replicate, get_or-replicate}
use borrow.Author.Tests.{eq-eqb}
use Rattle.laws.specs.Choice.{pick, at}
use Rattle.laws.proofs.Cases.{pick_yes}
use Rattle.model.specs.Sizes.{pages, addresses, slots, slot_of}
use Rattle.model.specs.State.{Shape, State, table}
use Rattle.model.specs.Parts.{shaped, set_slot, translate, forget, emptied}
use Rattle.model.specs.Rules.{Agrees, Rule8, Leads}
use Rattle.model.specs.Valid.{Valid}
use Rattle.keeps.proofs.Core.{Core, Eight, core_of, valid_of}
use Rattle.keeps.proofs.Parts.{tlb_core}
use Rattle.keeps.proofs.Stores.{size_set, below_set, zero_set, stored?, left}

-- ---- slot i holds va and e; an empty one holds zeros

pub slot_core : {s : State} → Core s → (i va e : ℕ) → va < addresses → e < suc pages → (e ≡ 0 → va ≡ 0)
    → Core (shaped s (set_slot s.shape i va e))
slot_core {s} c i va e hv he z =
    let T = s.shape.tlb in
    tlb_core c
    (record {
      slot_address = size_set T.slot_address i va c.sized.slot_address;
      slot_page = size_set T.slot_page i e c.sized.slot_page;
      ranges =
          record {
            slot_address = below_set T.slot_address i va hv c.rule10.tlb.slot_address;
            slot_page = below_set T.slot_page i e he c.rule10.tlb.slot_page;
            empty = λ j hj. zero_set T.slot_page T.slot_address i e va c.sized.slot_page c.sized.slot_address z j hj (c.rule10.tlb.empty j hj);
          };
    })

slot_rule8 : {entry slot_address slot_page : List ℕ} {m : ℕ} (i va e : ℕ) → length slot_address ≡ slots → ((p : ℕ) → e ≡ suc p → Agrees entry m i va p)
    → Rule8 entry slot_address slot_page m → Rule8 entry (set slot_address i va) (set slot_page i e) m
slot_rule8 {slot_address = slot_address} {slot_page} i va e n f r =
    record {
      agrees = λ j p hj w. stored? slot_address slot_page i va e j p w
          (λ q z a. rw (a (omega (arith, (f p z).in_slot)), q) (f p z))
          (λ _ z a. rw a (r.agrees j p hj z));
    }

-- ---- a pair of the table in force

pub translate_valid : {s : State} → Valid s → {va p : ℕ} → va < addresses → Leads s.shape.pages.entry (table s.shape) va p
    → Valid (shaped s (translate s.shape va p))
unfolding table
translate_valid {s} v {va} {p} h l =
    valid_of (slot_core (core_of v) (slot_of va) va (suc p) h (omega (arith, l.page)) (λ e. absurd (omega arith)))
    (slot_rule8 (slot_of va) va (suc p) v.sized.slot_address
    (λ q w. record { address = h; in_slot = refl; page = omega (arith, l.page); in_force = l.in_force; holds = l.holds ∙ w })
    v.rule8)
    v.rule9

-- ---- the entry for an address goes

-- the slot that is emptied, if there is one
abbrev forgotten : List ℕ → ℕ → ℕ
forgotten slot_address va = pick (eqb (at slot_address (slot_of va)) va) (slot_of va) slots

pub forget_core : {s : State} → Core s → (va : ℕ) → Core (shaped s (forget s.shape va))
forget_core {s} c va = slot_core c (forgotten s.shape.tlb.slot_address va) 0 0 (omega arith) (omega arith) (λ e. e)

-- the table in force is the same
pub forget_eight : {s : State} → Core s → (va : ℕ) → Eight s.shape → Eight (forget s.shape va)
unfolding table
forget_eight {s} c va = slot_rule8 (forgotten s.shape.tlb.slot_address va) 0 0 c.sized.slot_address (λ p w. absurd (omega arith))

-- no slot holds the address
pub forget_gone : (h : Shape) (va : ℕ) → Eight h → (i p : ℕ) → i < slots → at (forget h va).tlb.slot_page i ≡ suc p → at (forget h va).tlb.slot_address i ≢ va
forget_gone h va r i p hi e a =
    let address_of = h.tlb.slot_address in
    let d = left address_of h.tlb.slot_page (forgotten address_of va) i p e in
    let holds : at address_of i ≡ va = sym d.2 ∙ a in
    let own : slot_of va ≡ i = ap slot_of (sym holds) ∙ (r.agrees i p hi d.1).in_slot in
    d.0 (sym own ∙ sym (pick_yes (slot_of va) slots (eq-eqb (at address_of (slot_of va)) va (ap (at address_of) own ∙ holds))))

pub forget_valid : {s : State} → Valid s → (va : ℕ) → Valid (shaped s (forget s.shape va))
unfolding table
forget_valid v va = valid_of (forget_core (core_of v) va) (forget_eight (core_of v) va v.rule8) v.rule9

-- ---- an empty TLB: in its ranges, and it agrees with every table

no_slot : (i : ℕ) → i < slots → at (replicate slots 0) i ≡ 0
no_slot i h = get_or-replicate slots i 0 0 h

pub emptied_core : {s : State} → Core s → Core (shaped s (emptied s.shape))
emptied_core c =
    tlb_core c
    (record {
      slot_address = length-replicate {A = ℕ} slots 0;
      slot_page = length-replicate {A = ℕ} slots 0;
      ranges = record { slot_address = λ i h. omega (arith, no_slot i h); slot_page = λ i h. omega (arith, no_slot i h); empty = λ i h e. no_slot i h };
    })

pub emptied_eight : (h : Shape) → Eight (emptied h)
emptied_eight h = record { agrees = λ i p k e. absurd (omega (arith, no_slot i k)) }
